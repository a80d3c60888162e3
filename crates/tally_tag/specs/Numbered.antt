-- The tally by an element's number, which stands for its name, and by the numbers of its tag.
use Rattle.std.specs.Prelude.{List, [], ◌∷◌, Bool, cond, ◌&&◌, ◌||◌, ℕ, ◌+◌, ◌*◌, ◌-◌, ◌^◌, ◌≤◌, min, ℤ, pos, neg_ℤ, eqb}
use Rattle.std.proofs.lemmas.List.Edits.{sets}
use Rattle.cdi.specs.Lists.{ascii, between}
use Rattle.cdi.specs.Pieces.{Attribute}
use Rattle.cdi.specs.Rules.{natural, size_of}
use Rattle.cdi.specs.Plans.{offset_fits}
use Rattle.cdi.specs.Planning.{number_or, offset_of}
use Rattle.extent.specs.Reach.{nowhere, by_offset, by_size, join, repeat, fits_at, held}
use Rattle.extent.specs.declared.Extent.{Extent}
use Rattle.tally_tag.specs.declared.Numbers.{Numbers}
use Rattle.tally_tag.specs.declared.Tally.{Tally}
use Rattle.tally_tag.specs.Tallying.{from_to, first_leaving, change_of}

-- ── ranges ──

-- the numbers of a tag, each in its range
pub record Ranged (m : Numbers) : Type 0 where
  pub rises : natural m.offset ≤ 2 ^ 31 - 1
  pub falls : natural (neg_ℤ m.offset) ≤ 2 ^ 31
  pub least_size : 1 ≤ m.size
  pub most_size : m.size ≤ 65535
  pub least_copies : 1 ≤ m.replication
  pub most_copies : m.replication ≤ 2147483647
  pub origin : m.origin ≤ 2147483647
  pub space : m.space ≤ 255

-- ── the numbers of a tag ──

unfoldable pub size_by : ℕ → List Attribute → ℕ
size_by e s = from_to 1 65535 1 (cond (eqb e 8) 8 (size_of s))

-- a number in its range, or its least
unfoldable pub natural_in : ℕ → ℕ → List ℕ → List Attribute → ℕ
natural_in lo hi n s = from_to lo hi lo (natural (number_or (pos lo) n s))

unfoldable pub offset_in : List Attribute → ℤ
offset_in s = cond (offset_fits (offset_of s)) (offset_of s) (pos 0)

unfoldable pub numbers_by : ℕ → List Attribute → Numbers
numbers_by e s =
    record {
      offset = offset_in s;
      size = size_by e s;
      replication = natural_in 1 2147483647 (ascii "replication") s;
      origin = natural_in 0 2147483647 (ascii "origin") s;
      space = natural_in 0 255 (ascii "space") s;
    }

-- ── levels ──

-- a segment, where segments stand
unfoldable pub segment_at : ℕ → ℕ → Bool
segment_at level e = eqb level 1 && eqb e 4

-- a data element, where data elements stand
unfoldable pub data_at : ℕ → ℕ → Bool
data_at level e = eqb level 2 && between 5 9 e

unfoldable pub group_at : ℕ → ℕ → Bool
group_at level e = eqb level 2 && eqb e 5

unfoldable pub recorded_by : ℕ → ℕ → Bool
recorded_by level e = segment_at level e || data_at level e

unfoldable pub level_by : ℕ → ℕ → ℕ
level_by level e = cond (eqb level 0) 1 (cond (segment_at level e || group_at level e) 2 3)

unfoldable pub enter_by : Tally → ℕ → Tally
enter_by g e =
    record {
      extent = nowhere;
      level = level_by g.level e;
      records = cond (recorded_by g.level e) (g.records + 1) g.records;
      total = g.total;
      leaves = g.leaves;
    }

-- ── leaving a child ──

unfoldable pub own_by : ℕ → Numbers → Extent → Extent
own_by e m inside = held (join (held (by_offset m.offset)) (cond (eqb e 5) (held (repeat m.replication inside)) (held (by_size m.size))))

unfoldable pub leave_by : Tally → ℕ → ℕ → Numbers → Tally → Tally
leave_by g p e m i =
    record {
      extent = cond (data_at g.level e) (held (join g.extent (own_by e m i.extent))) g.extent;
      level = cond (eqb g.level 0) 3 g.level;
      records = i.records;
      total = cond (segment_at g.level e) (min (i.total + i.extent.count) 1000001) i.total;
      leaves = cond (segment_at g.level e) (first_leaving (fits_at m.origin i.extent) p i.leaves) i.leaves;
    }

-- ── the record ──

unfoldable pub kind_by : ℕ → ℕ → ℕ
kind_by level e = cond (eqb level 1) 1 (cond (eqb e 5) 2 (cond (eqb e 6) 3 (cond (eqb e 7) 4 (cond (eqb e 8) 5 6))))

-- its third number, its fourth and its fifth, and the extent that it tells of
unfoldable pub address_by : ℕ → Numbers → ℤ
address_by level m = cond (eqb level 1) (pos m.origin) m.offset

unfoldable pub width_by : ℕ → ℕ → Numbers → ℕ
width_by level e m = cond (eqb level 1) m.space (cond (eqb e 5) 0 m.size)

unfoldable pub copies_by : ℕ → ℕ → Numbers → ℕ
copies_by level e m = cond (group_at level e) m.replication 1

unfoldable pub told_by : ℕ → ℕ → Numbers → Extent → Extent
told_by level e m inside = cond (eqb level 1) inside (own_by e m inside)

unfoldable pub record_by : Tally → ℕ → ℕ → Numbers → Tally → List ℤ
record_by g p e m i =
    let told = told_by g.level e m i.extent in
    pos (kind_by g.level e)
    ∷ pos p
    ∷ address_by g.level m
    ∷ pos (width_by g.level e m)
    ∷ pos (copies_by g.level e m)
    ∷ pos i.records
    ∷ pos told.count
    ∷ change_of told
    ∷ []

unfoldable pub written_by : Tally → ℕ → ℕ → Numbers → Tally → List ℤ → List ℤ
written_by g p e m i t = cond (recorded_by g.level e) (sets t (g.records * 8) (record_by g p e m i)) t
