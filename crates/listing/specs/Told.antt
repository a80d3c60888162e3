-- What the answer of listing says.
use Rattle.std.specs.Prelude.{ℕ, Option, Some, None}
use Rattle.cdi.specs.Faults.{Answer, accepted, refused, fault}

-- how many variables were listed, or 20 "not a plan"
unfoldable pub listing_of : Option ℕ → Answer ℕ
listing_of (Some n) = accepted n
listing_of None = refused (fault 20 0)
