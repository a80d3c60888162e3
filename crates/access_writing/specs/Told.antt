-- What the answer of writing means.
use Rattle.std.specs.Prelude.{ℕ, ◌^◌, ◌≤◌, Result, Ok, Err}
use Rattle.cdi.specs.Faults.{Answer, accepted, refused}
use Rattle.maps.specs.declared.Wanted.{Wanted}
use Rattle.maps.specs.declared.Wanted.TheVariants.{Number, Event, Text}
use Rattle.refusals.specs.declared.Refusal.{Refusal}
use Rattle.refusals.specs.Refusals.{fault_of}

unfoldable pub written_of : Result (Unit {0}) Refusal → Answer (Unit {0})
written_of (Ok u) = accepted tt
written_of (Err r) = refused (fault_of r)

-- n bytes have room for the value, which is a text of length l or none
unfoldable pub Room : ℕ → Wanted → ℕ → Type 0
Room n (Number b m) l = (n ≤ 8) × (m ≤ 256 ^ n)
Room n (Event v) l = Unit
Room n Text l = l ≤ n
