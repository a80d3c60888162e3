-- Planning with a table of any length: the same answer as with another length, but for 13.
use mathlib.Core.Path.{◌≡◌, refl, sym, ◌∙◌}
use mathlib.Core.List.{List}
use Prim.Native.Nat.{ℕ, ◌*◌, ◌≤◌, ◌<◌}
use native.Mathlib.Omega.{arith}
use native.Mathlib.Decide.{dec_le}
use borrow.Author.Tests.{le-leb, lt-leb}
use lib.IntN.{ℤ}
use lib.ListN.{length}
use Rattle.cdi.specs.Faults.{Fault, fault, Answer, accepted, refused, ◌and_then◌}
use Rattle.cdi.specs.Table.{records_of, table_of}
use Rattle.cdi.specs.Planning.{Description, Counts, counts_of, described, room, planned, placed, table_after}

-- what planning answers where the table has room
unfoldable pub verdict : List ℕ → Answer Counts
verdict b = described b and_then λ d. accepted (counts_of d.segments)

-- a text that is accepted without regard to a table, into one with room: its counts, and its records in front
pub fits : (b : List ℕ) (t : List ℤ) (d : Description) → described b ≡ accepted d → 8 * records_of d.segments ≤ length t
    → planned b t ≡ accepted (counts_of d.segments)
unfolding planned room
fits b t d e h = rw (e, le-leb _ _ h)

pub fits_table : (b : List ℕ) (t : List ℤ) (d : Description) → described b ≡ accepted d → 8 * records_of d.segments ≤ length t
    → table_after b t ≡ placed (table_of d.segments) t
unfolding table_after
fits_table b t d e h = rw (e, le-leb _ _ h, table_after)

-- into one without: 13, and nothing is written
pub short : (b : List ℕ) (t : List ℤ) (d : Description) → described b ≡ accepted d → length t < 8 * records_of d.segments
    → planned b t ≡ refused (fault 13 0)
unfolding planned room
short b t d e h = rw (e, lt-leb _ _ h)

pub short_table : (b : List ℕ) (t : List ℤ) (d : Description) → described b ≡ accepted d → length t < 8 * records_of d.segments → table_after b t ≡ t
unfolding table_after
short_table b t d e h = rw (e, lt-leb _ _ h, table_after)

-- any other refusal is the same with every table, and leaves it unchanged
pub refuses : (b : List ℕ) (t : List ℤ) (f : Fault) → described b ≡ refused f → planned b t ≡ refused f
unfolding planned
refuses b t f e = rw e

pub refuses_table : (b : List ℕ) (t : List ℤ) (f : Fault) → described b ≡ refused f → table_after b t ≡ t
unfolding table_after
refuses_table b t f e = rw (e, table_after)

-- so two tables get the same answer, unless one of the answers is 13
pub one_verdict : (b : List ℕ) (t : List ℤ) → (planned b t ≡ refused (fault 13 0) → ⊥) → planned b t ≡ verdict b
unfolding verdict
one_verdict b t n = by (described b) refl
  where
    by : (a : Answer Description) → described b ≡ a → planned b t ≡ (described b and_then λ d. accepted (counts_of d.segments))
    by (refused f) e = refuses b t f e ∙ rw e
    by (accepted d) e = held (dec_le (8 * records_of d.segments) (length t))
      where
        held : Dec (8 * records_of d.segments ≤ length t) → planned b t ≡ (described b and_then λ d. accepted (counts_of d.segments))
        held (yes h) = fits b t d e h ∙ rw e
        held (no h) = absurd (n (short b t d e (omega arith)))

pub any_table : (b : List ℕ) (t u : List ℤ) → (planned b t ≡ refused (fault 13 0) → ⊥) → (planned b u ≡ refused (fault 13 0) → ⊥) → planned b t ≡ planned b u
any_table b t u m n = one_verdict b t m ∙ sym (one_verdict b u n)
