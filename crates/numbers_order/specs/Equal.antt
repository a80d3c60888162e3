-- Whether a number that was read is this one.
use Rattle.std.specs.Prelude.{Bool, false, cond, ◌&&◌, ◌||◌, ℕ, eqb}
use Rattle.std.specs.Bool.{beq}
use Rattle.numbers.specs.declared.Signed.{Signed}

unfoldable pub is_equal : Signed → Bool → ℕ → Bool
is_equal n b m = cond n.large false (eqb n.magnitude m && (eqb m 0 || beq n.negative b))
