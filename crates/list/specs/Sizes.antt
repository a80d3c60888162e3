-- As many bytes as were read lie in the slice.
use Rattle.std.specs.Prelude.{Bool, true, ℕ, leb, Option, Some, None}

unfoldable pub within : ℕ → Option ℕ → Bool
within most (Some n) = leb n most
within most None = true
