-- What the code's answers mean.
use Rattle.std.proofs.Math.Option.{Option, none, some}
use Rattle.std.specs.Prelude as std
use Rattle.std.specs.Prelude.{ℕ, Some, None}

unfoldable pub zero_at : std.Option ℕ → Option ℕ
zero_at (Some i) = some i
zero_at None = none
