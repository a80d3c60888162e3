-- What the answers of stages 1 to 3 mean.
use Rattle.std.specs.Prelude.{◌≡◌, List, ℕ, ◌≤◌, length, take, Result, Ok, Err}
use Rattle.std.proofs.Math.Option.{some}
use Rattle.cdi.specs.Faults.{Answer, accepted, refused}
use Rattle.cdi.specs.Text.{end_of}
use Rattle.refusals.specs.declared.Refusal.{Refusal}
use Rattle.refusals.specs.Refusals.{fault_of}

-- the content up to its end, or the refusal
unfoldable pub opened_of : List ℕ → Result ℕ Refusal → Answer (List ℕ)
opened_of b (Ok e) = accepted (take e b)
opened_of b (Err r) = refused (fault_of r)

-- content that begins with the first line, to its end
unfoldable pub Whole : List ℕ → Result ℕ Refusal → Type 0
Whole c (Ok e) = (e ≡ length c) × (22 ≤ e)
Whole c (Err r) = Unit

-- a text whose content ends there
unfoldable pub Ended : List ℕ → Result ℕ Refusal → Type 0
Ended b (Ok e) = (end_of b ≡ some e) × ((22 ≤ e) × ((e ≤ 65535) × (e ≤ length b)))
Ended b (Err r) = Unit
