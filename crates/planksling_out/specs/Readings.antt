-- What reading hands out, as numbers.
use Rattle.std.specs.Prelude.{Bool, true, false, ℕ, ◌+◌, length, pos, negsuc, nat_abs, Result, Ok, Err}
use Rattle.cdi.specs.Faults.{Answer, accepted, refused, ◌and_then◌}
use Rattle.cdi.specs.Access as A
use Rattle.cdi.specs.Access.{Value, integer, event, string, kind_of_value}
use Rattle.refusals.specs.declared.Refusal.{Refusal}
use Rattle.refusals.specs.Refusals.{fault_of}
use Rattle.access_reading.specs.declared.Reading.{Reading}
use Rattle.access_reading.specs.declared.Reading.TheVariants as reading

-- 0 stands for what a value doesn't have
pub record Shown : Type 0 where
  pub kind : ℕ
  pub negative : ℕ
  pub number : ℕ
  pub from : ℕ
  pub to : ℕ
  pub writable : ℕ

unfoldable pub bit_of : Bool → ℕ
bit_of true = 1
bit_of false = 0

-- 1 of an integer below zero
unfoldable pub negative_in : Value → ℕ
negative_in (integer (pos m)) = 0
negative_in (integer (negsuc m)) = 1
negative_in (event v) = 0
negative_in (string s) = 0

-- an integer's magnitude, an event ID
unfoldable pub number_of : Value → ℕ
number_of (integer z) = nat_abs z
number_of (event v) = v
number_of (string s) = 0

-- where a text begins in the window, if its variable begins at `at`
unfoldable pub from_in : ℕ → Value → ℕ
from_in at (integer z) = 0
from_in at (event v) = 0
from_in at (string s) = at

-- where it ends
unfoldable pub to_in : ℕ → Value → ℕ
to_in at (integer z) = 0
to_in at (event v) = 0
to_in at (string s) = at + length s

unfoldable pub shown_at : ℕ → A.Reading → Shown
shown_at at r = record {
  kind = kind_of_value r.value;
  negative = negative_in r.value;
  number = number_of r.value;
  from = from_in at r.value;
  to = to_in at r.value;
  writable = bit_of r.writable;
}

-- of an answer about a variable that begins at `at` in the window
unfoldable pub showing : ℕ → Answer A.Reading → Answer Shown
showing at a = a and_then λ r. accepted (shown_at at r)

-- of what the code of reading says
unfoldable pub shown_of : Result Reading Refusal → Answer Shown
shown_of (Ok (reading.Integer b m f)) = accepted (record { kind = 3; negative = bit_of b; number = m; from = 0; to = 0; writable = bit_of f })
shown_of (Ok (reading.Event v f)) = accepted (record { kind = 5; negative = 0; number = v; from = 0; to = 0; writable = bit_of f })
shown_of (Ok (reading.Text i j f)) = accepted (record { kind = 4; negative = 0; number = 0; from = i; to = j; writable = bit_of f })
shown_of (Err r) = refused (fault_of r)
