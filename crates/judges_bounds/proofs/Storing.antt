-- What a size can store, and the faults of min and max, by signs and magnitudes.
use mathlib.Core.Path.{◌≡◌, refl, sym, ap, ◌∙◌}
use mathlib.Core.List.{List, ◌++◌}
use mathlib.Core.Bool.{Bool, true, false, cond, not, ◌&&◌, ◌||◌}
use Prim.Native.Nat.{ℕ, zero, suc, ◌+◌, ◌*◌, ◌-◌, ◌^◌, ◌≤◌}
use native.Mathlib.Omega.{arith}
use borrow.Author.Rules.{rules}
use borrow.Author.Tests.{le-leb, ne_eqb}
use lib.Dec.{eqb, leb, leb-suc-zero, leb-zero}
use lib.IntN.{ℤ, pos}
use lib.Signed.{le_z, lt_z}
use Rattle.cdi.specs.Faults.{Fault, fault, unless, lesser, least}
use Rattle.cdi.specs.Numbers.{within}
use Rattle.cdi.specs.Rules.{smallest, largest, storable}
use Rattle.cdi.specs.Values.{with_sign}
use Rattle.cdi.proofs.Tests.{both_left, both_right}
use Rattle.keys.specs.Keys.{fault_in}
use Rattle.numbers.specs.Held.{size_of, nearest, low_of, high_of}
use Rattle.numbers.specs.declared.Signed.{Signed}
use Rattle.numbers_order.proofs.Order.{both_below, both_above, second_below, first_below, wholly_above}
use Rattle.terms.specs.Wholes.{whole_of}
use Rattle.rules_judge.specs.Judging.{blamed, bound_blame}
use Rattle.rules_judge.proofs.Blaming.{blamed_in_turn}
use Rattle.rules_bounds.proofs.Storing.{low_signed, high_signed, low_plain, high_plain}
use Rattle.judges_state.specs.declared.Judge.{Judge}
use Rattle.judges_state.specs.Decoded.{least_in, judge_of}
use Rattle.judges_state.specs.Steps.{size_at}
use Rattle.judges_state.proofs.Blaming.{key_blamed_with}

-- ── order by sign and magnitude ──

module _ (m p : ℕ) where
  a : Bool → Signed
  a negative = record { negative = negative; magnitude = m; large = false }

  b : Bool → Signed
  b negative = record { negative = negative; magnitude = p; large = false }

  pub below_below : leb p m ≡ le_z (with_sign true m) (with_sign true p)
  unfolding nearest size_of a b
  below_below = both_below (a true) (b true) refl refl refl

  pub below_above : true ≡ le_z (with_sign true m) (with_sign false p)
  unfolding nearest size_of a b
  below_above = first_below (a true) (b false) refl refl

  pub above_above : leb m p ≡ le_z (with_sign false m) (with_sign false p)
  unfolding nearest size_of a b
  above_above = both_above (a false) (b false) refl refl refl

  pub above_below : (eqb m 0 && eqb p 0) ≡ le_z (with_sign false m) (with_sign true p)
  unfolding nearest size_of a b
  above_below = by (eqb m 0) refl
    where
      by : (t : Bool) → eqb m 0 ≡ t → (t && eqb p 0) ≡ le_z (with_sign false m) (with_sign true p)
      by true e = second_below (a false) (b true) refl refl (sym e) refl refl
      by false e = wholly_above (a false) (b true) refl refl (sym e) refl

module _ (m p : ℕ) (n q : Bool) where
  pub order_below : n ≡ true → q ≡ true → leb p m ≡ le_z (with_sign n m) (with_sign q p)
  order_below e f = below_below m p ∙ rw (e, f)

  pub order_around : n ≡ true → q ≡ false → true ≡ le_z (with_sign n m) (with_sign q p)
  order_around e f = below_above m p ∙ rw (e, f)

  pub order_nought : n ≡ false → q ≡ true → (eqb m 0 && eqb p 0) ≡ le_z (with_sign n m) (with_sign q p)
  order_nought e f = above_below m p ∙ rw (e, f)

  pub order_above : n ≡ false → q ≡ false → leb m p ≡ le_z (with_sign n m) (with_sign q p)
  order_above e f = above_above m p ∙ rw (e, f)

-- ── what a size can store ──

module _ (n : ℕ) where
  pub half_one : n ≡ 1 → 0x80 ≡ 2 ^ (8 * size_at n - 1)
  unfolding size_at
  half_one e = rw e

  pub half_two : n ≡ 2 → 0x8000 ≡ 2 ^ (8 * size_at n - 1)
  unfolding size_at
  half_two e = rw e

  pub half_four : n ≡ 4 → 0x8000_0000 ≡ 2 ^ (8 * size_at n - 1)
  unfolding size_at
  half_four e = rw e

  pub half_eight : 1 ≤ n → (n ≡ 1 → ⊥) → (n ≡ 2 → ⊥) → (n ≡ 4 → ⊥) → 0x8000_0000_0000_0000 ≡ 2 ^ (8 * size_at n - 1)
  unfolding size_at
  half_eight h e f g = rw (ne_eqb n 0 (λ z. omega arith), ne_eqb n 1 e, ne_eqb n 2 f, ne_eqb n 4 g)

pub ruleset halves = (half_one, half_two, half_four, half_eight, rules)

-- a size is at least 1
sized : (n : ℕ) → 1 ≤ n → 1 ≤ size_at n
unfolding size_at
sized n h = rw (ne_eqb n 0 (λ z. omega arith)) (by (eqb n 1) (eqb n 2) (eqb n 4))
  where
    by : (x y z : Bool) → 1 ≤ cond x 1 (cond y 2 (cond z 4 8))
    by true y z = omega arith
    by false true z = omega arith
    by false false true = omega arith
    by false false false = omega arith

and_true : (t : Bool) → t ≡ (t && true)
and_true true = refl
and_true false = refl

plain : (n : ℕ) → with_sign false n ≡ pos n
unfolding with_sign
plain n = refl

module _ (n k h : ℕ) (signed negative : Bool) (e : h ≡ 2 ^ (8 * size_at n - 1)) where
  between : {t u : Bool} (lo hi : ℤ) → lo ≡ smallest signed (size_at n) → hi ≡ largest signed (size_at n)
      → t ≡ le_z lo (with_sign negative k) → u ≡ le_z (with_sign negative k) hi → (t && u) ≡ storable signed (size_at n) (with_sign negative k)
  unfolding storable within
  between lo hi f g p q = rw (p, q, f, g)

  module _ (f : signed ≡ true) where
    least_is : with_sign true h ≡ smallest signed (size_at n)
    unfolding low_of
    least_is = low_signed (size_at n) e f

    most_is : with_sign false (h - 1) ≡ largest signed (size_at n)
    unfolding high_of
    most_is = plain (h - 1) ∙ high_signed (size_at n) e f

    pub signed_below : negative ≡ true → leb k h ≡ storable signed (size_at n) (with_sign negative k)
    signed_below g = and_true (leb k h) ∙ between _ _ least_is most_is (order_below h k true negative refl g) (order_around k (h - 1) negative false g refl)

    pub signed_above : negative ≡ false → leb k (h - 1) ≡ storable signed (size_at n) (with_sign negative k)
    signed_above g = between _ _ least_is most_is (order_around h k true negative refl g) (order_above k (h - 1) negative false g refl)

  module _ (l : 1 ≤ n) (f : signed ≡ false) (o : 1 ≤ h) where
    nought_is : with_sign false 0 ≡ smallest signed (size_at n)
    unfolding low_of
    nought_is = low_plain (size_at n) {m = h} e f

    whole_is : with_sign false (h + (h - 1)) ≡ largest signed (size_at n)
    unfolding high_of
    whole_is = plain (h + (h - 1)) ∙ high_plain (size_at n) e (sized n l) o f

    pub plain_below : negative ≡ true → eqb k 0 ≡ storable signed (size_at n) (with_sign negative k)
    plain_below g = and_true (eqb k 0) ∙ between _ _ nought_is whole_is (order_nought 0 k false negative refl g) (order_around k (h + (h - 1)) negative false g refl)

    pub plain_above : negative ≡ false → leb k (h + (h - 1)) ≡ storable signed (size_at n) (with_sign negative k)
    plain_above g = between _ _ nought_is whole_is (sym (leb-zero k) ∙ order_above 0 k false negative refl g) (order_above k (h + (h - 1)) negative false g refl)

pub ruleset storing = (signed_below, signed_above, plain_below, plain_above, rules)

-- ── where it is asked ──

pub in_order : (asked n q : Bool) (m p : ℕ) (a b : Signed) {r : Bool} → asked ≡ true → nearest a ≡ with_sign n m → nearest b ≡ with_sign q p → r ≡ le_z (nearest a) (nearest b)
    → r ≡ (not asked || le_z (with_sign n m) (with_sign q p))
in_order asked n q m p a b e f g h = h ∙ rw (e, f, g)

pub ruleset asking = (in_order, rules)

-- ── the faults of min and max ──

module _ (n : ℕ) where
  nought_stored : storable false n (pos 0) ≡ true
  unfolding storable within smallest largest
  nought_stored = leb-zero (2 ^ (8 * n) - 1)

  largest_stored : (s : Bool) → storable s n (largest s n) ≡ true
  unfolding storable within smallest largest with_sign
  largest_stored true = rw (← below_above (2 ^ (8 * n - 1)) (2 ^ (8 * n - 1) - 1), le-leb (2 ^ (8 * n - 1) - 1) (2 ^ (8 * n - 1) - 1) (omega arith))
  largest_stored false = rw (leb-zero (2 ^ (8 * n) - 1), le-leb (2 ^ (8 * n) - 1) (2 ^ (8 * n) - 1) (omega arith))

  -- what is stored lies between the smallest and the largest
  at_least_nought : (z : ℤ) → storable false n z ≡ true → le_z (pos 0) z ≡ true
  unfolding storable within smallest
  at_least_nought z e = both_left (le_z (pos 0) z) (le_z z (largest false n)) e

  at_most_largest : (s : Bool) (z : ℤ) → storable s n z ≡ true → le_z z (largest s n) ≡ true
  unfolding storable within
  at_most_largest s z e = both_right (le_z (smallest s n) z) (le_z z (largest s n)) e

-- by what the code has tested: each bound where it is there, and their order where both are there and stored
tested : ℕ → ℕ → ℕ → ℕ → Bool → Bool → ℤ → ℤ → Bool → List Fault
tested p n lp hp lt ht v w s =
    unless (not lt || storable s n v) (fault 10 lp)
    ++ (unless (not ht || storable s n w) (fault 10 hp)
    ++ unless (not ((lt && ht) && ((not lt || storable s n v) && (not ht || storable s n w))) || le_z v w) (fault 10 p))

-- as the definition has it: a bound that isn't there has a value of its own
meant : ℕ → ℕ → ℕ → ℕ → Bool → Bool → ℤ → ℤ → Bool → List Fault
meant p n lp hp lt ht v w s =
    let min = cond lt v (pos 0) in
    let max = cond ht w (largest s n) in
    unless (storable s n min) (fault 10 (cond lt lp p))
    ++ (unless (storable s n max) (fault 10 (cond ht hp p))
    ++ unless (not (storable s n min && storable s n max) || le_z min max) (fault 10 p))

where_stored : (t u : Bool) → (t ≡ true → u ≡ true) → (not t || u) ≡ true
where_stored true u h = h refl
where_stored false u h = refl

tested_meant : (p n lp hp : ℕ) (lt ht : Bool) (v w : ℤ) (s : Bool) → (lt ≡ false → s ≡ false) → tested p n lp hp lt ht v w s ≡ meant p n lp hp lt ht v w s
unfolding tested meant unless
tested_meant p n lp hp true true v w s h = refl
tested_meant p n lp hp true false v w s h =
    rw (largest_stored n s, ← and_true (storable s n v), where_stored (storable s n v) (le_z v (largest s n)) (at_most_largest n s v))
tested_meant p n lp hp false true v w s h =
    rw (h refl, nought_stored n, where_stored (storable false n w) (le_z (pos 0) w) (at_least_nought n w))
tested_meant p n lp hp false false v w s h =
    rw (h refl, nought_stored n, largest_stored n false, at_least_nought n (largest false n) (largest_stored n false))

-- the sign of a number by its sign and magnitude
sign_of : (negative : Bool) (m : ℕ) → lt_z (with_sign negative m) (pos 0) ≡ (negative && not (eqb m 0))
unfolding with_sign
sign_of true zero = refl
sign_of true (suc m) = rw (ne_eqb (suc m) 0 (λ z. omega arith))
sign_of false zero = refl
sign_of false (suc m) = leb-suc-zero (suc m)

bounds_are : (p n : ℕ) (i : Judge)
    → tested p n i.low i.high i.has_low i.has_high (with_sign i.low_negative i.smallest) (with_sign i.high_negative i.largest)
    (i.has_low && (i.low_negative && not (eqb i.smallest 0)))
    ≡ bound_blame p n (judge_of i).low (judge_of i).high
bounds_are p n i =
    tested_meant p n i.low i.high i.has_low i.has_high _ _ _ (none i.has_low _)
    ∙ ap (λ (t : Bool). meant p n i.low i.high i.has_low i.has_high (with_sign i.low_negative i.smallest) (with_sign i.high_negative i.largest) (i.has_low && t))
    (sym (sign_of i.low_negative i.smallest))
    ∙ (unfold meant bound_blame judge_of whole_of with_sign in refl)
  where
    none : (t u : Bool) → t ≡ false → (t && u) ≡ false
    none t u e = rw e

pub bounds_told : (l p n : ℕ) (i : Judge) (a b r : ℕ) {low high ordered : Bool}
    → low ≡ (not i.has_low || storable (i.has_low && (i.low_negative && not (eqb i.smallest 0))) (size_at n) (with_sign i.low_negative i.smallest))
    → high ≡ (not i.has_high || storable (i.has_low && (i.low_negative && not (eqb i.smallest 0))) (size_at n) (with_sign i.high_negative i.largest))
    → ordered ≡ (not ((i.has_low && i.has_high) && (low && high)) || le_z (with_sign i.low_negative i.smallest) (with_sign i.high_negative i.largest))
    → fault_in a ≡ lesser (fault_in l) (least (unless low (fault 10 i.low)))
    → fault_in b ≡ lesser (fault_in a) (least (unless high (fault 10 i.high)))
    → fault_in r ≡ lesser (fault_in b) (least (unless ordered (fault 10 p)))
    → least_in r ≡ blamed (least_in l) (bound_blame p (size_at n) (judge_of i).low (judge_of i).high)
unfolding tested
bounds_told l p n i a b r {low} {high} {ordered} el eh eo ea eb er =
    blamed_in_turn (least_in l) (unless low (fault 10 i.low)) (unless high (fault 10 i.high) ++ unless ordered (fault 10 p)) (key_blamed_with a l _ ea)
    (blamed_in_turn (least_in a) (unless high (fault 10 i.high)) (unless ordered (fault 10 p)) (key_blamed_with b a _ eb) (key_blamed_with r b _ er))
    ∙ rw (eo, el, eh, ← bounds_are p (size_at n) i)

pub ruleset bound_faults = (bounds_told, rules)
