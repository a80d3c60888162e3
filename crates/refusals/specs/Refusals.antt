-- What such an answer means: `Ok` accepts, and `Err` refuses with a number and a place.
use Rattle.std.specs.Prelude.{ℕ, Result, Ok, Err}
use Rattle.cdi.specs.Faults.{Fault, fault, Answer, accepted, refused}
use Rattle.refusals.specs.declared.Refusal.{Refusal}

abbrev pub refusal : ℕ → ℕ → Refusal
refusal n p = record { number = n; place = p }

abbrev pub fault_of : Refusal → Fault
fault_of r = fault r.number r.place

module _ {A B : Type 0} where
  -- what a call answers, by what it accepts with
  unfoldable pub answer_by : (A → B) → Result A Refusal → Answer B
  answer_by f (Ok a) = accepted (f a)
  answer_by f (Err r) = refused (fault_of r)
