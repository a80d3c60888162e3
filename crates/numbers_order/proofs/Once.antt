-- The contract allows one answer: any two answers that it allows are equal.
use mathlib.Core.Path.{◌≡◌, sym, ◌∙◌}
use mathlib.Core.Bool.{Bool}
use lib.Signed.{le_z}
use Rattle.numbers.specs.Held.{nearest}
use Rattle.numbers.specs.declared.Signed.{Signed}

pub is_at_most_once : (a b : Signed) {q r : Bool} → q ≡ le_z (nearest a) (nearest b) → r ≡ le_z (nearest a) (nearest b) → q ≡ r
is_at_most_once a b e f = e ∙ sym f
