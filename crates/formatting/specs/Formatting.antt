-- The pattern of `formatting`, behind its first digits.
use Rattle.std.specs.Prelude.{List, Bool, false, ℕ}
use Rattle.cdi.specs.Lists.{ascii, given, same, after, strip}
use Rattle.cdi.specs.Pieces.{digit}

-- "`.` and any digits or none, then `f`"
unfoldable pub is_fraction : List ℕ → Bool
is_fraction s = given (strip (ascii ".") s) false (λ t. same (after digit t) (ascii "f"))
