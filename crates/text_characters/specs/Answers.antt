-- What the answer about a character means.
use Rattle.std.specs.Prelude.{Bool, cond, ℕ, Option as Answer, Some, None}
use Rattle.std.proofs.Math.Option.{Option, none, some}
use Rattle.cdi.specs.Lists.{given}
use Rattle.cdi.specs.Text.{Character as Decoded}
use Rattle.text_characters.specs.declared.Character.{Character}

unfoldable pub character_of : Answer Character → Option Decoded
character_of (Some c) = some (record { code = c.code; width = c.width })
character_of None = none

-- the width of a character that passes, or 0
unfoldable pub width_in : (ℕ → Bool) → Option Decoded → ℕ
width_in p o = given o 0 (λ c. cond (p c.code) c.width 0)
