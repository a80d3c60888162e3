-- What the tally of an element's content knows: entering a child, leaving it, and the record that is written then.
use Rattle.std.specs.Prelude as std
use Rattle.std.specs.Prelude.{Some, None, List, [], ◌∷◌, Bool, cond, ◌&&◌, ◌||◌, ℕ, ◌+◌, ◌*◌, min, ℤ, pos, ◌-ℤ◌, eqb}
use Rattle.std.proofs.Math.Option.{Option, none, some}
use Rattle.std.proofs.lemmas.List.Edits.{sets}
use Rattle.cdi.specs.Lists.{ascii, same, among, between}
use Rattle.cdi.specs.Faults.{Fault, fault}
use Rattle.cdi.specs.Pieces.{Attribute}
use Rattle.cdi.specs.Tree.{Nodes, end, element, other}
use Rattle.cdi.specs.Rows.{data_names}
use Rattle.cdi.specs.Rules.{natural}
use Rattle.cdi.specs.Plans.{offset_fits}
use Rattle.cdi.specs.Planning.{number_or, offset_of, variable_kind, variable_size}
use Rattle.extent.specs.Reach.{nowhere, by_offset, by_size, join, repeat, fits_at, held}
use Rattle.extent.specs.declared.Extent.{Extent}
use Rattle.tally_tag.specs.declared.Numbers.{Numbers}
use Rattle.tally_tag.specs.declared.Tally.{Tally}

-- the place of the first segment whose address leaves 0 to 2^32
abbrev pub Leaves : Type 0
Leaves = std.Option ℕ

unfoldable pub as_fault : Leaves → Option Fault
as_fault None = none
as_fault (Some p) = some (fault 11 p)

-- ── the numbers of a tag ──

-- a number in its range, or the other
unfoldable pub from_to : ℕ → ℕ → ℕ → ℕ → ℕ
from_to lo hi d n = cond (between lo hi n) n d

unfoldable pub numbers_of : List ℕ → List Attribute → Numbers
numbers_of n s =
    record {
      offset = cond (offset_fits (offset_of s)) (offset_of s) (pos 0);
      size = from_to 1 65535 1 (variable_size n s);
      replication = from_to 1 2147483647 1 (natural (number_or (pos 1) (ascii "replication") s));
      origin = from_to 0 2147483647 0 (natural (number_or (pos 0) (ascii "origin") s));
      space = from_to 0 255 0 (natural (number_or (pos 0) (ascii "space") s));
    }

-- ── levels ──

unfoldable pub is_group : List ℕ → Bool
is_group n = same n (ascii "group")

unfoldable pub is_segment : List ℕ → Bool
is_segment n = same n (ascii "segment")

-- whether a child at this level gets a record
unfoldable pub recorded : ℕ → List ℕ → Bool
recorded level n = (eqb level 1 && is_segment n) || (eqb level 2 && among n data_names)

-- the level inside a child
unfoldable pub level_in : ℕ → List ℕ → ℕ
level_in level n = cond (eqb level 0) 1 (cond ((eqb level 1 && is_segment n) || (eqb level 2 && is_group n)) 2 3)

unfoldable pub enter_of : Tally → List ℕ → Tally
enter_of g n =
    record {
      extent = nowhere;
      level = level_in g.level n;
      records = cond (recorded g.level n) (g.records + 1) g.records;
      total = g.total;
      leaves = g.leaves;
    }

-- ── leaving a child: `i` is what is known of its content ──

-- the extent of a data element: its offset, then its size or its copies
unfoldable pub own_extent : List ℕ → Numbers → Extent → Extent
own_extent n m inside = held (join (held (by_offset m.offset)) (cond (is_group n) (held (repeat m.replication inside)) (held (by_size m.size))))

unfoldable pub first_leaving : Bool → ℕ → Leaves → Leaves
first_leaving keeps p None = cond keeps None (Some p)
first_leaving keeps p (Some q) = Some q

unfoldable pub leave_of : Tally → ℕ → List ℕ → List Attribute → Tally → Tally
leave_of g p n s i =
    let m = numbers_of n s in
    let is_ended = eqb g.level 1 && is_segment n in
    record {
      extent = cond (eqb g.level 2 && among n data_names) (held (join g.extent (own_extent n m i.extent))) g.extent;
      level = cond (eqb g.level 0) 3 g.level;
      records = i.records;
      total = cond is_ended (min (i.total + i.extent.count) 1000001) i.total;
      leaves = cond is_ended (first_leaving (fits_at m.origin i.extent) p i.leaves) i.leaves;
    }

-- ── the record ──

-- the change of the address over an extent
unfoldable pub change_of : Extent → ℤ
change_of e = pos e.ends -ℤ pos e.below

unfoldable pub kind_of : ℕ → List ℕ → ℕ
kind_of level n = cond (eqb level 1) 1 (cond (is_group n) 2 (variable_kind n))

-- the eight numbers of the child's record
unfoldable pub record_of : Tally → ℕ → List ℕ → List Attribute → Tally → List ℤ
record_of g p n s i =
    let m = numbers_of n s in
    let e = cond (eqb g.level 1) i.extent (own_extent n m i.extent) in
    pos (kind_of g.level n)
    ∷ pos p
    ∷ cond (eqb g.level 1) (pos m.origin) m.offset
    ∷ pos (cond (eqb g.level 1) m.space (cond (is_group n) 0 m.size))
    ∷ pos (cond (eqb g.level 2 && is_group n) m.replication 1)
    ∷ pos i.records
    ∷ pos e.count
    ∷ change_of e
    ∷ []

unfoldable pub written : Tally → ℕ → List ℕ → List Attribute → Tally → List ℤ → List ℤ
written g p n s i t = cond (recorded g.level n) (sets t (g.records * 8) (record_of g p n s i)) t

-- ── the whole content ──

pub record Tallied : Type 0 where
  pub tally : Tally
  pub table : List ℤ

unfoldable pub tally_nodes : Tally → List ℤ → Nodes → Tallied
tally_nodes g t end = record { tally = g; table = t }
tally_nodes g t (other p c following) = tally_nodes g t following
tally_nodes g t (element p n s kids following) =
    let i = tally_nodes (enter_of g n) t kids in
    tally_nodes (leave_of g p n s i.tally) (written g p n s i.tally i.table) following

-- before the text
unfoldable pub at_start : Tally
at_start = record { extent = nowhere; level = 0; records = 0; total = 0; leaves = None }
