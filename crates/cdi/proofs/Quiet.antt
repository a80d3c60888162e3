-- What the absence of a fault says: lists without a least fault are empty and so are their parts, tests have passed, stages have accepted.
use mathlib.Core.Path.{◌≡◌, refl}
use mathlib.Core.List.{List, [], ◌∷◌, ◌++◌}
use mathlib.Core.Bool.{Bool, true, false, cond}
use mathlib.Core.Option.{Option, none, some}
use Prim.Native.Nat.{ℕ}
use native.Mathlib.Omega.{arith}
use borrow.Author.Tests.{eqb-true, eq-eqb}
use lib.Dec.{eqb}
use Rattle.cdi.specs.Lists.{any, same, among}
use Rattle.cdi.specs.Faults.{Fault, unless, lesser, least, Answer, accepted, refused, ◌and_then◌, stage}
use Rattle.cdi.proofs.Tests.{both_left, both_right}

-- Anything follows where two constructors that differ are equal: `impossible (cc)`.
pub impossible {ℓ} : {P : Type ℓ} → ◌≡◌ {A = ℕ} 0 1 → P
impossible z = absurd (omega arith)

module _ {A : Type 0} where
  -- Two answers that are the same accept with the same.
  pub same_accepted : {x y : A} → accepted x ≡ accepted y → x ≡ y
  same_accepted e = cc

  -- Two answers that are the same refuse for the same fault.
  pub same_refused : {f g : Fault} → ◌≡◌ {A = Answer A} (refused f) (refused g) → f ≡ g
  same_refused e = cc

some_lesser : (f : Fault) (o : Option Fault) → lesser (some f) o ≡ none → ◌≡◌ {A = ℕ} 0 1
unfolding lesser
some_lesser f none e = cc
some_lesser f (some g) e = cc

-- A list without a least fault is empty.
pub quiet : (fs : List Fault) → least fs ≡ none → fs ≡ []
unfolding least
quiet [] e = refl
quiet (f ∷ fs) e = impossible (some_lesser f (least fs) e)

module _ {A : Type 0} where
  -- The first part of an empty list is empty.
  pub empty_left : (xs ys : List A) → xs ++ ys ≡ [] → xs ≡ []
  empty_left [] ys e = refl
  empty_left (x ∷ xs) ys e = cc

  -- The second part of an empty list is empty.
  pub empty_right : (xs ys : List A) → xs ++ ys ≡ [] → ys ≡ []
  empty_right [] ys e = e
  empty_right (x ∷ xs) ys e = cc

-- A test that gave no fault has passed.
pub passed : (t : Bool) (f : Fault) → unless t f ≡ [] → t ≡ true
unfolding unless
passed true f e = refl
passed false f e = cc

-- Two byte strings that are found to be the same are equal.
pub same_equal : (x y : List ℕ) → same x y ≡ true → x ≡ y
unfolding same
same_equal [] [] e = refl
same_equal [] (b ∷ y) e = cc
same_equal (a ∷ x) [] e = cc
same_equal (a ∷ x) (b ∷ y) e =
    let p = eqb-true a b (both_left _ (same x y) e) in
    let q = same_equal x y (both_right (eqb a b) _ e) in
    cc

-- A byte string is found to be the same as itself.
pub same_self : (x : List ℕ) → same x x ≡ true
unfolding same
same_self [] = refl
same_self (a ∷ x) = rw (eq-eqb a a refl) (same_self x)

-- what holds of every text in the list
unfoldable pub Each : (List ℕ → Type 0) → List (List ℕ) → Type 0
Each P [] = Unit
Each P (t ∷ ts) = P t × Each P ts

-- What holds of every text in the list holds of a text that is found among them.
pub among_each : (P : List ℕ → Type 0) (x : List ℕ) (ts : List (List ℕ)) → Each P ts → among x ts ≡ true → P x
unfolding Each among any
among_each P x [] h e = impossible (cc)
among_each P x (t ∷ ts) h e = by (same x t) refl (among_each P x ts h.1)
  where
    by : (b : Bool) → same x t ≡ b → (any (same x) ts ≡ true → P x) → P x
    by true q others = rw (same_equal x t q) h.0
    by false q others = others (rw q at e)

module _ {A B : Type 0} where
  -- Where two stages have accepted, the first has handed something on that the second has accepted.
  pub through : {P : Type 0} (a : Answer A) (f : A → Answer B) (y : B) → (a and_then f) ≡ accepted y → ((x : A) → a ≡ accepted x → f x ≡ accepted y → P) → P
  through (accepted x) f y e k = k x refl e
  through (refused g) f y e k = impossible (cc)

module _ {A : Type 0} where
  -- A stage that has accepted has found no fault, and hands on what it was given.
  pub stage_passed : (o : Option Fault) (a x : A) → stage o a ≡ accepted x → (o ≡ none) × (a ≡ x)
  stage_passed none a x e = (refl, (cc))
  stage_passed (some f) a x e = ((cc), (cc))

  -- A test that has accepted holds, and hands on what it was given.
  pub test_passed : (t : Bool) (f : Fault) (a x : A) → cond t (accepted a) (refused f) ≡ accepted x → (t ≡ true) × (a ≡ x)
  test_passed true f a x e = (refl, (cc))
  test_passed false f a x e = ((cc), (cc))

turned : (x y : List ℕ) → same x y ≡ true → same y x ≡ true
turned x y e = rw (same_equal x y e) (same_self y)

-- Two byte strings are found to be the same either way round.
pub same_comm : (x y : List ℕ) → same x y ≡ same y x
same_comm x y = by (same x y) (same y x) refl refl
  where
    by : (t u : Bool) → same x y ≡ t → same y x ≡ u → same x y ≡ same y x
    by true u p q = rw (p, turned x y p)
    by false true p q = rw (q, turned y x q)
    by false false p q = rw (p, q)
