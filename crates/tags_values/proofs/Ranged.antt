-- A number against the range of its attribute.
use mathlib.Core.Path.{◌≡◌, refl, sym, ap, ◌∙◌}
use mathlib.Core.Bool.{Bool, true, false, ◌&&◌}
use mathlib.Core.Logic.{⊎_elim}
use Prim.Native.Nat.{ℕ, suc, ◌^◌, ◌≤◌, ◌<◌}
use native.Mathlib.Omega.{arith}
use borrow.Author.Rules.{rules}
use borrow.Author.Tests.{lt-ltb, le-ltb, le-leb, lt-leb, ne_eqb}
use lib.Dec.{eqb, leb}
use lib.IntN.{ℤ, pos, negsuc, nat_abs}
use lib.Signed.{le_z, lt_z}
use Rattle.cdi.specs.Numbers.{within}
use Rattle.cdi.proofs.Quiet.{impossible}
use Rattle.scan.proofs.Tests.{lt_or_le, eq_or_ne}
use Rattle.numbers.specs.Held.{held, signed_of, Judges}
use Rattle.numbers.specs.declared.Signed.{Signed}
use Rattle.tags_values.specs.Codes.{low_at, high_at, amount_for}

-- ── the lower end ──

low_above : (a k : ℕ) → le_z (low_at a) (pos k) ≡ leb (amount_for a) k
unfolding low_at amount_for
low_above a k = ⊎_elim (λ e. rw e (sym (le-leb 0 k (omega arith)))) (λ e. rw (ne_eqb a 8 e)) (eq_or_ne a 8)

low_below : (a k : ℕ) → le_z (low_at a) (negsuc k) ≡ (eqb a 8 && leb (suc k) 2147483648)
unfolding low_at
low_below a k = ⊎_elim (λ e. rw e (same k)) (λ e. rw (ne_eqb a 8 e)) (eq_or_ne a 8)
  where
    same : (k : ℕ) → leb k 2147483647 ≡ leb (suc k) 2147483648
    same k = ⊎_elim (λ h. rw (lt-leb k 2147483647 h, lt-leb (suc k) 2147483648 (omega arith))) (λ h. rw (le-leb k 2147483647 h, le-leb (suc k) 2147483648 (omega arith))) (lt_or_le 2147483647 k)

-- ── the number that was read ──

-- whole numbers that are held: the sign and the magnitude are theirs
held_small : (n : Signed) (b : Bool) (k : ℕ) → n ≡ held b k → n.large ≡ false → (n.negative ≡ b) × (n.magnitude ≡ k)
unfolding held
held_small n b k e f = ⊎_elim (λ h. let q : n ≡ record { negative = b; magnitude = k; large = false } = rw (lt-ltb k (2 ^ 64) h) at e in (ap (λ x. x.negative) q, ap (λ x. x.magnitude) q))
    (λ h. let q : n ≡ record { negative = b; magnitude = 0; large = true } = rw (le-ltb k (2 ^ 64) h) at e in let z : true ≡ false = sym (ap (λ x. x.large) q) ∙ f in impossible (cc))
    (lt_or_le k (2 ^ 64))

held_large : (n : Signed) (b : Bool) (k : ℕ) → n ≡ held b k → n.large ≡ true → 2 ^ 64 ≤ k
unfolding held
held_large n b k e f = ⊎_elim (λ h. let q : n ≡ record { negative = b; magnitude = k; large = false } = rw (lt-ltb k (2 ^ 64) h) at e in let z : true ≡ false = sym f ∙ ap (λ x. x.large) q in impossible (cc)) (λ h. h) (lt_or_le k (2 ^ 64))

-- ── the upper end ──

record High (a : ℕ) : Type 0 where
  end : ℕ
  is : high_at a ≡ pos end
  most : end ≤ 2147483647

high : (a : ℕ) → High a
unfolding high_at
high a = ⊎_elim
    (λ (l : a < 6). record { end = 255; is = rw (lt-ltb a 6 l); most = omega arith })
    (λ (l : 6 ≤ a). ⊎_elim
    (λ (e : a ≡ 9). record { end = 65535; is = rw e; most = omega arith })
    (λ (e : a ≡ 9 → ⊥). record { end = 2147483647; is = rw (le-ltb a 6 l, ne_eqb a 9 e); most = omega arith })
    (eq_or_ne a 9))
    (lt_or_le a 6)

-- ── in the range or not ──

and-false : (t : Bool) → (t && false) ≡ false
and-false true = refl
and-false false = refl

and_true : (t : Bool) → (t && true) ≡ t
and_true true = refl
and_true false = refl

module _ (n : Signed) (a : ℕ) where
  too_high : (k : ℕ) → 2 ^ 64 ≤ k → within (low_at a) (high_at a) (pos k) ≡ false
  unfolding within
  too_high k m = rw ((high a).is, lt-leb k (high a).end (omega (arith, (high a).most))) (and-false (le_z (low_at a) (pos k)))

  too_low : (k : ℕ) → 2 ^ 64 ≤ suc k → within (low_at a) (high_at a) (negsuc k) ≡ false
  unfolding within
  too_low k m = rw (low_below a k, lt-leb (suc k) 2147483648 (omega arith), and-false (eqb a 8))

  pub large_outside : n.large ≡ true → Judges n (within (low_at a) (high_at a)) false
  large_outside f = record { of = by }
    where
      by : (z : ℤ) → n ≡ signed_of z → false ≡ within (low_at a) (high_at a) z
      by (pos k) q = unfold signed_of in sym (too_high k (held_large n false k q f))
      by (negsuc k) q = unfold signed_of in sym (too_low k (held_large n true (suc k) q f))

  module _ (f : n.large ≡ false) where
    pub negative_inside : n.negative ≡ true → Judges n (within (low_at a) (high_at a)) (eqb a 8 && leb n.magnitude 2147483648)
    negative_inside g = record { of = by }
      where
        by : (z : ℤ) → n ≡ signed_of z → (eqb a 8 && leb n.magnitude 2147483648) ≡ within (low_at a) (high_at a) z
        by (pos k) q = unfold signed_of in let w = held_small n false k q f in let z : true ≡ false = sym g ∙ w.0 in impossible (cc)
        by (negsuc k) q = unfold signed_of within in let w = held_small n true (suc k) q f in rw ((high a).is, low_below a k, w.1, and_true (eqb a 8 && leb (suc k) 2147483648))

    pub above_inside : {x h : ℕ} → n.negative ≡ false → x ≡ amount_for a → high_at a ≡ pos h → Judges n (within (low_at a) (high_at a)) (leb x n.magnitude && leb n.magnitude h)
    above_inside {x} {h} g y e = record { of = by }
      where
        by : (z : ℤ) → n ≡ signed_of z → (leb x n.magnitude && leb n.magnitude h) ≡ within (low_at a) (high_at a) z
        by (pos k) q = unfold signed_of within in let w = held_small n false k q f in rw (e, low_above a k, w.1, y)
        by (negsuc k) q = unfold signed_of in let w = held_small n true (suc k) q f in let z : true ≡ false = sym w.0 ∙ g in impossible (cc)

pub ruleset in_range = (large_outside, negative_inside, above_inside, rules)

-- ── what the code says of a number in the range ──

-- its size and its sign are those that are held
pub sized : (n : Signed) (a : ℕ) (z : ℤ) → n ≡ signed_of z → within (low_at a) (high_at a) z ≡ true → (nat_abs z ≡ n.magnitude) × (lt_z z (pos 0) ≡ n.negative)
sized n a z q w = by n.large refl
  where
    by : (t : Bool) → n.large ≡ t → (nat_abs z ≡ n.magnitude) × (lt_z z (pos 0) ≡ n.negative)
    by true f = let x : false ≡ true = (large_outside n a f).of z q ∙ w in impossible (cc)
    by false f = small z q
      where
        small : (z : ℤ) → n ≡ signed_of z → (nat_abs z ≡ n.magnitude) × (lt_z z (pos 0) ≡ n.negative)
        small (pos k) q = unfold signed_of in let w = held_small n false k q f in (sym w.1, le-ltb k 0 (omega arith) ∙ sym w.0)
        small (negsuc k) q = unfold signed_of in let w = held_small n true (suc k) q f in (sym w.1, sym w.0)
