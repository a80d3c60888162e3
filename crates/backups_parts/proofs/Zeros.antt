-- Whether all bytes of a part are zero.
use Rattle.std.proofs.Common.{◌≡◌, refl, sym, List, [], ◌∷◌, Bool, true, false, ℕ, zero, suc, ◌<◌, length, get_or, ◌↔◌, IsTrue, EachIndex, arith}
use lib.Dec.{eqb}
use borrow.Author.Tests.{eqb-true, eq-eqb}
use Rattle.cdi.specs.Lists.{all}
use Rattle.cdi.proofs.Tests.{both_left, both_right}

all_zero : (s : List ℕ) → ((k : ℕ) → k < length s → get_or s k 0 ≡ 0) → all (eqb 0) s ≡ true
unfolding all
all_zero [] h = refl
all_zero (x ∷ s) h = rw (eq-eqb 0 x (sym (h 0 (omega arith)))) (all_zero s (λ k l. h (suc k) (omega arith)))

zero_at : (s : List ℕ) → all (eqb 0) s ≡ true → (k : ℕ) → k < length s → get_or s k 0 ≡ 0
unfolding all
zero_at [] e k l = absurd (omega arith)
zero_at (x ∷ s) e zero l = sym (eqb-true 0 x (both_left (eqb 0 x) (all (eqb 0) s) e))
zero_at (x ∷ s) e (suc k) l = zero_at s (both_right (eqb 0 x) (all (eqb 0) s) e) k (omega arith)

pub blank : (s : List ℕ) (r : Bool) → (IsTrue r ↔ EachIndex s (λ k. get_or s k 0 ≡ 0)) → r ≡ all (eqb 0) s
blank s true h = sym (all_zero s (h.0 refl))
blank s false h = by (all (eqb 0) s) (λ e. h.1 (zero_at s e))
  where
    by : (b : Bool) → (b ≡ true → false ≡ true) → false ≡ b
    by true f = f refl
    by false f = refl
