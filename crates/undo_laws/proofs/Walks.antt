-- The walk along a room, in the form of a loop: what it knows at entry i, and one law for each way on.
use mathlib.Core.Path.{◌≡◌, refl, sym, ap, ◌∙◌}
use mathlib.Core.List.{List}
use mathlib.Core.Bool.{Bool, true, false, ◌&&◌}
use Prim.Native.Nat.{ℕ, zero, suc, ◌+◌, ◌-◌, ◌<◌, ◌≤◌}
use native.Mathlib.Numerals.{add-one}
use native.Mathlib.Omega.{arith}
use native.Mathlib.Decide.{dec_le}
use lib.ListN.{length}
use Rattle.cdi.proofs.Quiet.{impossible}
use Rattle.undo_model.specs.Journal.{four_at, beginning, lie}
use Rattle.undo_laws.proofs.Entries.{all_lie, last_lies}

-- entries 0 to i - 1 lie in the room, and entry i begins at `at`
pub record Reached (r : List ℕ) (i at : ℕ) : Type 0 where
  pub begins : beginning r i ≡ at
  pub within : at ≤ length r

pub reached_lie : {r : List ℕ} {i at : ℕ} → Reached r i at → lie r i ≡ true
reached_lie {r} {i} h = all_lie r i (omega (arith, h.begins, h.within))

-- at the front
pub start : (r : List ℕ) → Reached r 0 0
unfolding beginning
start r = record { begins = refl; within = omega arith }

module _ {r : List ℕ} {i at : ℕ} (h : Reached r i at) where
  next_is : beginning r (suc i) ≡ at + 8 + four_at r (at + 4)
  unfolding beginning
  next_is = rw h.begins

  -- past an entry that ends in the room
  pub next : (size : ℕ) → size ≡ four_at r (at + 4) → at + 8 + size ≤ length r → Reached r (i + 1) (at + 8 + size)
  next size z l = record { begins = ap (beginning r) (add-one i) ∙ next_is ∙ omega arith; within = l }

  beyond : length r < beginning r (suc i) → lie r (suc i) ≡ false
  beyond l = by (lie r (suc i)) refl
    where
      by : (x : Bool) → lie r (suc i) ≡ x → x ≡ false
      by false e = refl
      by true e = let m = last_lies r (suc i) e in absurd (omega arith)

-- where an entry doesn't lie in the room, no further one does
pub none_behind : (r : List ℕ) (i k : ℕ) → i ≤ k → lie r i ≡ false → lie r k ≡ false
unfolding lie
none_behind r zero zero l e = e
none_behind r (suc i) zero l e = absurd (omega arith)
none_behind r i (suc k) l e = by (dec_le i k) (none_behind r i k)
  where
    by : Dec (i ≤ k) → (i ≤ k → lie r i ≡ false → lie r k ≡ false) → lie r (suc k) ≡ false
    by (yes m) rest = rw (rest m e)
    by (no m) rest = let q : i ≡ suc k = omega arith in ap (lie r) (sym q) ∙ e

module _ {r : List ℕ} {i at : ℕ} (h : Reached r i at) (k : ℕ) where
  -- no room for its head, or none for its old bytes: entry k doesn't lie there
  pub no_head : i < k → length r < at + 8 → lie r k ≡ false
  no_head l m = none_behind r (suc i) k l (beyond h (omega (arith, next_is h)))

  pub no_bytes : (size : ℕ) → size ≡ four_at r (at + 4) → i < k → length r < at + 8 + size → lie r k ≡ false
  no_bytes size z l m = none_behind r (suc i) k l (beyond h (omega (arith, next_is h)))
