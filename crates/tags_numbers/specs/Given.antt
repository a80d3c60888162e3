-- The numbers that a tag gives, by the codes and the amounts of its attributes.
use Rattle.std.specs.Prelude.{◌≡◌, List, cond, ℕ, ◌≤◌, eqb, ℤ, pos, neg_ℤ, get_or}
use Rattle.cdi.specs.Rules.{natural}
use Rattle.tally_tag.specs.declared.Numbers.{Numbers}
use Rattle.tags_numbers.specs.declared.Given.{Given}

-- ── by codes and amounts ──

-- an offset: its sign is in its code
unfoldable pub offset_by : ℕ → ℕ → ℤ
offset_by code n = cond (eqb code 2) (neg_ℤ (pos n)) (pos n)

-- a segment's origin and space, or the offset and the size of any other element; and the replication
unfoldable pub given_in : ℕ → List ℕ → List ℕ → Given
given_in e codes amounts =
    record {
      address = cond (eqb e 4) (pos (get_or amounts 6 0)) (offset_by (get_or codes 8 0) (get_or amounts 8 0));
      width = cond (eqb e 4) (get_or amounts 5 0) (cond (eqb e 8) 8 (get_or amounts 9 0));
      copies = get_or amounts 7 0;
    }

-- ── by the numbers that the tally speaks of ──

unfoldable pub given_by : ℕ → Numbers → Given
given_by e m =
    record {
      address = cond (eqb e 4) (pos m.origin) m.offset;
      width = cond (eqb e 4) m.space m.size;
      copies = m.replication;
    }

-- those numbers, as far as they are given
unfoldable pub numbers_of : Given → Numbers
numbers_of m = record { offset = m.address; size = m.width; replication = m.copies; origin = natural m.address; space = m.width }

-- ── ranges ──

-- the amounts lie in their ranges
pub record Cells (codes amounts : List ℕ) : Type 0 where
  pub space : get_or amounts 5 0 ≤ 255
  pub origin : get_or amounts 6 0 ≤ 2147483647
  pub least_copies : 1 ≤ get_or amounts 7 0
  pub most_copies : get_or amounts 7 0 ≤ 2147483647
  pub falls : get_or amounts 8 0 ≤ 2147483648
  pub rises : (get_or codes 8 0 ≡ 2 → ⊥) → get_or amounts 8 0 ≤ 2147483647
  pub size : get_or amounts 9 0 ≤ 65535

-- so do the numbers; a segment's address isn't below zero
pub record Bounded (e : ℕ) (m : Given) : Type 0 where
  pub rises : natural m.address ≤ 2147483647
  pub falls : natural (neg_ℤ m.address) ≤ 2147483648
  pub above : e ≡ 4 → m.address ≡ pos (natural m.address)
  pub width : m.width ≤ 65535
  pub least_copies : 1 ≤ m.copies
  pub most_copies : m.copies ≤ 2147483647
