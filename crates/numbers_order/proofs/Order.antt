-- Numbers compared by sign and magnitude.
use mathlib.Core.Path.{◌≡◌, refl, sym, ◌∙◌}
use mathlib.Core.Bool.{Bool, true, false}
use mathlib.Core.Logic.{⊎_elim}
use Prim.Native.Nat.{ℕ, zero, suc}
use native.Mathlib.Omega.{arith}
use borrow.Author.Rules.{rules}
use borrow.Author.Tests.{le-leb, lt-leb, eqb-true, eqb-false, ne_eqb}
use lib.Dec.{eqb, leb}
use lib.IntN.{pos, neg_ℤ}
use lib.Signed.{le_z}
use Rattle.scan.proofs.Tests.{lt_or_le}
use Rattle.cdi.specs.Values.{with_sign}
use Rattle.numbers.specs.Held.{size_of, nearest}
use Rattle.numbers.specs.declared.Signed.{Signed}

-- ── order ──

module _ {p q : Bool} (m n : ℕ) where
  below_below : p ≡ true → q ≡ true → leb n m ≡ le_z (with_sign p m) (with_sign q n)
  unfolding with_sign
  below_below e f = rw (e, f) (by m n)
    where
      by : (m n : ℕ) → leb n m ≡ le_z (neg_ℤ (pos m)) (neg_ℤ (pos n))
      by zero zero = refl
      by zero (suc n) = lt-leb (suc n) 0 (omega arith)
      by (suc m) zero = le-leb 0 (suc m) (omega arith)
      by (suc m) (suc n) = ⊎_elim
          (λ h. rw (lt-leb n m h, lt-leb (suc n) (suc m) (omega arith)))
          (λ h. rw (le-leb n m h, le-leb (suc n) (suc m) (omega arith)))
          (lt_or_le m n)

  below_above : p ≡ true → q ≡ false → true ≡ le_z (with_sign p m) (with_sign q n)
  unfolding with_sign
  below_above e f = rw (e, f) (by m)
    where
      by : (m : ℕ) → true ≡ le_z (neg_ℤ (pos m)) (pos n)
      by zero = sym (le-leb 0 n (omega arith))
      by (suc m) = refl

  nought_below : p ≡ false → q ≡ true → m ≡ 0 → eqb n 0 ≡ le_z (with_sign p m) (with_sign q n)
  unfolding with_sign
  nought_below e f z = rw (e, f) (by n)
    where
      by : (n : ℕ) → eqb n 0 ≡ le_z (pos m) (neg_ℤ (pos n))
      by zero = sym (le-leb m 0 (omega arith))
      by (suc n) = ne_eqb (suc n) 0 (omega arith)

  above_below : p ≡ false → q ≡ true → (m ≡ 0 → ⊥) → false ≡ le_z (with_sign p m) (with_sign q n)
  unfolding with_sign
  above_below e f z = rw (e, f) (by n)
    where
      by : (n : ℕ) → false ≡ le_z (pos m) (neg_ℤ (pos n))
      by zero = sym (lt-leb m 0 (omega arith))
      by (suc n) = refl

  above_above : p ≡ false → q ≡ false → leb m n ≡ le_z (with_sign p m) (with_sign q n)
  unfolding with_sign
  above_above e f = rw (e, f)

module _ (a b : Signed) {r : Bool} where
  pub both_below : a.negative ≡ true → b.negative ≡ true → r ≡ leb (size_of b) (size_of a) → r ≡ le_z (nearest a) (nearest b)
  unfolding nearest
  both_below e f g = g ∙ below_below (size_of a) (size_of b) e f

  pub both_above : a.negative ≡ false → b.negative ≡ false → r ≡ leb (size_of a) (size_of b) → r ≡ le_z (nearest a) (nearest b)
  unfolding nearest
  both_above e f g = g ∙ above_above (size_of a) (size_of b) e f

  pub second_below : {t : Bool} → a.negative ≡ false → b.negative ≡ true → t ≡ eqb (size_of a) 0 → t ≡ true → r ≡ eqb (size_of b) 0 → r ≡ le_z (nearest a) (nearest b)
  unfolding nearest
  second_below e f g h k = k ∙ nought_below (size_of a) (size_of b) e f (eqb-true _ _ (sym g ∙ h))

module _ (a b : Signed) where
  pub first_below : a.negative ≡ true → b.negative ≡ false → true ≡ le_z (nearest a) (nearest b)
  unfolding nearest
  first_below e f = below_above (size_of a) (size_of b) e f

  pub wholly_above : {t : Bool} → a.negative ≡ false → b.negative ≡ true → t ≡ eqb (size_of a) 0 → t ≡ false → false ≡ le_z (nearest a) (nearest b)
  unfolding nearest
  wholly_above e f g h = above_below (size_of a) (size_of b) e f (eqb-false _ _ (sym g ∙ h))

pub ruleset order = (both_below, both_above, second_below, first_below, wholly_above, rules)
