-- A field that was read keeps its limit.
use Rattle.std.specs.Prelude.{Bool, true, ℕ, leb, Option, Some, None}

unfoldable pub keeps : ℕ → Option ℕ → Bool
keeps limit (Some n) = leb n limit
keeps limit None = true
