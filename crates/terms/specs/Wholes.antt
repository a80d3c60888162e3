-- What a whole number as the code holds it is.
use Rattle.std.specs.Prelude.{◌≡◌, true, ◌<◌, ℤ}
use Rattle.cdi.specs.Values.{with_sign}
use Rattle.terms.specs.declared.Whole.{Whole}

unfoldable pub whole_of : Whole → ℤ
whole_of w = with_sign w.negative w.magnitude

-- zero is not negative
unfoldable pub Plain : Whole → Type 0
Plain w = w.negative ≡ true → 0 < w.magnitude
