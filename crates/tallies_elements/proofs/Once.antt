-- One answer: the first segment that leaves the addresses has one place. The other contracts are equations.
use mathlib.Core.Path.{◌≡◌, sym, ◌∙◌}
use mathlib.Core.Bool.{Bool}
use Prim.Native.Nat.{ℕ}
use Rattle.tally_tag.specs.Tallying.{first_leaving}
use Rattle.tallies_state.specs.Flat.{leaves_of}
use Rattle.tallies_state.proofs.Once.{leaves_known}

pub first_leaving_once : (keeps : Bool) (at leaves q r : ℕ) → leaves_of q ≡ first_leaving keeps at (leaves_of leaves) → leaves_of r ≡ first_leaving keeps at (leaves_of leaves) → q ≡ r
first_leaving_once keeps at leaves q r e f = leaves_known q r (e ∙ sym f)
