-- The end of the content and the first bad character as one number.
use Rattle.std.specs.Prelude.{List, ℕ, take}
use Rattle.std.proofs.Math.Option.{Option}
use Rattle.cdi.specs.Lists.{given}
use Rattle.cdi.specs.Faults.{Answer}
use Rattle.cdi.specs.Faults.Answer.{accepted, refused}
use Rattle.cdi.specs.Text.{bad_character}

unfoldable pub place_in : Answer ℕ → ℕ
place_in (accepted e) = e
place_in (refused f) = f.place

unfoldable pub place_or : ℕ → Option ℕ → ℕ
place_or other o = given o other (λ p. p)

-- of a text whose end is known
unfoldable pub bad_in : List ℕ → Answer ℕ → ℕ
bad_in s (accepted e) = place_or e (bad_character (take e s))
bad_in s (refused f) = f.place
