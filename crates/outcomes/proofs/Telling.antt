-- What is handed out of an answer: by the case that a call says, and of another answer that is the same.
use mathlib.Core.Path.{◌≡◌}
use Prim.Native.Nat.{ℕ}
use Rattle.cdi.specs.Faults.{Answer}
use Rattle.outcomes.specs.Outcomes.{number_in, place_after, value_after}

module _ {A C : Type 0} (answer : C → Answer A) {c d : C} (h : c ≡ d) where
  pub number_by_law : {y : ℕ} → y ≡ number_in (answer d) → y ≡ number_in (answer c)
  number_by_law e = rw h e

  pub place_by : (x : ℕ) {y : ℕ} → y ≡ place_after (answer d) x → y ≡ place_after (answer c) x
  place_by x e = rw h e

  pub value_by : (value : A → ℕ) (x : ℕ) {y : ℕ} → y ≡ value_after value (answer d) x → y ≡ value_after value (answer c) x
  value_by value x e = rw h e

module _ {A : Type 0} {u v : Answer A} where
  pub told_number : {x : ℕ} → x ≡ number_in u → u ≡ v → x ≡ number_in v
  told_number p e = rw (← e) p

  pub told_place : (y : ℕ) {x : ℕ} → x ≡ place_after u y → u ≡ v → x ≡ place_after v y
  told_place y p e = rw (← e) p

  pub told_value : (value : A → ℕ) (y : ℕ) {x : ℕ} → x ≡ value_after value u y → u ≡ v → x ≡ value_after value v y
  told_value value y p e = rw (← e) p
