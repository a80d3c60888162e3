-- The order of the causes, and what a cause means.
use Rattle.std.specs.Prelude.{Bool, cond, ℕ, Option, Some, None}
use Rattle.cdi.specs.Faults.{fault, Answer, accepted, refused}

-- "27 .., 22 .., 23 .., 25 .., 24 .., 26", or none
unfoldable pub first_of : Bool → Bool → Bool → Bool → Bool → Bool → Option ℕ
first_of withheld kind bounds text map window =
    cond withheld (Some 27) (cond kind (Some 22) (cond bounds (Some 23) (cond text (Some 25) (cond map (Some 24) (cond window (Some 26) None)))))

unfoldable pub cause_of : Option ℕ → Answer (Unit {0})
cause_of None = accepted tt
cause_of (Some n) = refused (fault n 0)
