-- Refusals: a number and a place, and which of several speaks.
use Rattle.std.specs.Prelude.{List, [], ◌∷◌, Bool, true, false, cond, ◌&&◌, ◌||◌, ℕ, ◌+◌, ◌-◌, eqb, leb, ltb}
use Rattle.std.proofs.Math.Option.{Option, none, some}
use Rattle.cdi.specs.Lists.{between}

-- "Planning returns number and place"
pub record Fault : Type 0 where
  pub number : ℕ
  pub place : ℕ

abbrev pub fault : ℕ → ℕ → Fault
fault n p = record { number = n; place = p }

-- the fault where the test fails
unfoldable pub unless : Bool → Fault → List Fault
unless true f = []
unless false f = f ∷ []

-- the order of the numbers at one place: "81 to 88 in that order replace 8 in its stage and still rank before 9"
unfoldable pub rank : ℕ → ℕ
rank n = cond (between 81 88 n) (n - 73) (cond (between 8 80 n) (n + 8) n)

-- "the smallest place, then the smallest number", numbers by their rank
unfoldable pub before : Fault → Fault → Bool
before f g = ltb f.place g.place || (eqb f.place g.place && leb (rank f.number) (rank g.number))

-- the lesser of two, where both are there
unfoldable pub lesser : Option Fault → Option Fault → Option Fault
lesser none o = o
lesser (some f) none = some f
lesser (some f) (some g) = some (cond (before f g) f g)

-- the least of all
unfoldable pub least : List Fault → Option Fault
least [] = none
least (f ∷ fs) = lesser (some f) (least fs)

-- what every call answers: it accepts and gives something, or it refuses with a number and a place
pub data Answer (A : Type 0) : Type 0 where
  accepted : A → Answer A
  refused : Fault → Answer A

module _ {A B : Type 0} where
  infixl 20 ◌and_then◌
  -- the next stage, where this one has accepted: "The earliest stage speaks"
  abbrev pub ◌and_then◌ : Answer A → (A → Answer B) → Answer B
  accepted a and_then f = f a
  refused e and_then f = refused e

module _ {A : Type 0} where
  -- a stage that has found a fault, or else what it hands on
  abbrev pub stage : Option Fault → A → Answer A
  stage none a = accepted a
  stage (some f) a = refused f

  unfoldable pub is_accepted : Answer A → Bool
  is_accepted (accepted a) = true
  is_accepted (refused f) = false

unfoldable pub faults_page : Unit {0}
unfolding unless rank before lesser least is_accepted
faults_page = tt
