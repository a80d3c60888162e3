-- Runs over any test: one byte more, a step known at once, and steps one behind another.
use mathlib.Core.Path.{◌≡◌, refl, sym, subst, ap, ◌∙◌}
use mathlib.Core.List.{List}
use mathlib.Core.Bool.{Bool, true, false, cond, ◌&&◌, ◌||◌}
use Prim.Native.Nat.{ℕ, zero, suc, ◌+◌, ◌-◌, ◌≤◌, ◌<◌}
use native.Mathlib.Nat.{add-zero}
use native.Mathlib.Omega.{arith}
use borrow.Author.Rules.{rules}
use borrow.Author.Tests.{ne_eqb, le-leb, lt-leb, le-ltb, ltb-true, ltb-false}
use lib.Dec.{eqb, leb, ltb}
use lib.ListN.{length, get_or}
use Rattle.cdi.proofs.Quiet.{impossible}
use Rattle.text_runs.specs.Runs.{plain, AllOf}

-- ── any run ──

module _ {p : ℕ → Bool} {s : List ℕ} where
  pub nothing_yet : (at : ℕ) → AllOf p s at at
  nothing_yet at = record { each = λ j h k. absurd (omega arith) }

  -- one run behind another
  pub behind : {at i m : ℕ} → AllOf p s at i → AllOf p s i m → AllOf p s at m
  behind {at} {i} {m} v w = record { each = λ j h k. by j h (ltb j i) refl k }
    where
      by : (j : ℕ) → at ≤ j → (t : Bool) → ltb j i ≡ t → j < m → p (get_or s j 0) ≡ true
      by j h true f k = v.each j h (ltb-true j i f)
      by j h false f k = w.each j (ltb-false j i f) k

  one : (m : ℕ) → p (get_or s m 0) ≡ true → AllOf p s m (m + 1)
  one m e = record { each = λ j h k. (let is : j ≡ m = omega arith in ap (λ i. p (get_or s i 0)) is ∙ e) }

-- what a byte that passes keeps is kept by a run of them
carried_by : (p : ℕ → Bool) (s : List ℕ) (P : ℕ → Type 0) → ((j : ℕ) → P j → j < length s → p (get_or s j 0) ≡ true → P (j + 1))
    → (n : ℕ) {i : ℕ} → P i → i + n ≤ length s → AllOf p s i (i + n) → P (i + n)
carried_by p s P keeps zero {i} v l w = subst P (sym (add-zero i)) v
carried_by p s P keeps (suc n) {i} v l w = subst P again
    (carried_by p s P keeps n (keeps i v (omega arith) (w.each i (omega arith) (omega arith))) (omega arith) (record { each = λ j h k. w.each j (omega arith) (omega arith) }))
  where
    again : i + 1 + n ≡ i + suc n
    again = omega arith

pub carried : {p : ℕ → Bool} {s : List ℕ} (P : ℕ → Type 0) → ((j : ℕ) → P j → j < length s → p (get_or s j 0) ≡ true → P (j + 1))
    → {i r : ℕ} → P i → i ≤ r → r ≤ length s → AllOf p s i r → P r
carried {p} {s} P keeps {i} {r} v l h w = subst P again (carried_by p s P keeps (r - i) v (omega arith) (record { each = λ j a b. w.each j a (omega arith) }))
  where
    again : i + (r - i) ≡ r
    again = omega arith

-- ── tested bytes ──

module _ {p : ℕ → Bool} {s : List ℕ} {at : ℕ} where
  -- k bytes behind i
  pub none_more : {i : ℕ} → AllOf p s at i → AllOf p s at (i + 0)
  none_more {i} v = subst (AllOf p s at) (sym (add-zero i)) v

  pub one_more : (i k : ℕ) → AllOf p s at (i + k) → {t : Bool} → t ≡ p (get_or s (i + k) 0) → t ≡ true → AllOf p s at (i + (k + 1))
  one_more i k v e f = let is : i + k + 1 ≡ i + (k + 1) = omega arith in subst (AllOf p s at) is (behind v (one (i + k) (sym e ∙ f)))

  pub all_eight : (i k : ℕ) → AllOf p s at (i + k) → 8 ≤ k → AllOf p s at (i + 8)
  all_eight i k v h = record { each = λ j a b. v.each j a (omega arith) }

  -- bytes of which all are good so far
  pub none_tested : true ≡ true → AllOf p s at (at + 0)
  none_tested e = none_more (nothing_yet at)

  pub one_tested : (k : ℕ) (good : Bool) {t : Bool} → (good ≡ true → AllOf p s at (at + k)) → t ≡ p (get_or s (at + k) 0) → (good && t) ≡ true → AllOf p s at (at + (k + 1))
  one_tested k true v e f = one_more at k (v refl) e f
  one_tested k false v e f = impossible (cc)

pub ruleset step_loop = (none_tested, one_tested, all_eight)

pub ruleset run_loop = (nothing_yet, behind, none_more, one_more, all_eight, rules)

-- ── tests without branches ──

module _ (b : ℕ) where
  below : b < 32 → (((leb 32 b && leb b 127) || eqb b 9) || eqb b 10) ≡ (eqb b 9 || eqb b 10)
  below h = rw (lt-leb 32 b h)

  from_space : 32 ≤ b → (((leb 32 b && leb b 127) || eqb b 9) || eqb b 10) ≡ leb b 127
  from_space h = rw (le-leb 32 b h, ne_eqb b 9 (omega arith), ne_eqb b 10 (omega arith)) (neither (leb b 127))
    where
      neither : (x : Bool) → ((x || false) || false) ≡ x
      neither true = refl
      neither false = refl

  pub plain_above : 127 < b → leb b 127 ≡ plain b
  unfolding plain
  plain_above h = sym (rw (le-ltb b 32 (omega arith)))

  -- both ways of saying which bytes are characters by themselves
  pub plain_test : (((leb 32 b && leb b 127) || eqb b 9) || eqb b 10) ≡ plain b
  unfolding plain
  plain_test = by (ltb b 32) refl
    where
      by : (t : Bool) → ltb b 32 ≡ t → (((leb 32 b && leb b 127) || eqb b 9) || eqb b 10) ≡ cond t (eqb b 9 || eqb b 10) (leb b 127)
      by true f = below (ltb-true b 32 f)
      by false f = from_space (ltb-false b 32 f)
