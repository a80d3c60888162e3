-- The order of the causes is that of the definitions.
use mathlib.Core.Path.{◌≡◌, refl}
use mathlib.Core.List.{[], ◌∷◌}
use mathlib.Core.Bool.{Bool, true, false}
use Prim.Native.Nat.{ℕ}
use Rattle.std.specs.Prelude.{Option, Some, None}
use Rattle.std.specs.Option.{is_none}
use Rattle.cdi.specs.Faults.{is_accepted}
use Rattle.cdi.specs.Access.{first_cause}
use Rattle.access_order.specs.Told.{first_of, cause_of}

pub ordered : (a b c d e f : Bool) → cause_of (first_of a b c d e f) ≡ first_cause ((a, 27) ∷ (b, 22) ∷ (c, 23) ∷ (d, 25) ∷ (e, 24) ∷ (f, 26) ∷ [])
unfolding cause_of first_of first_cause
ordered true b c d e f = refl
ordered false true c d e f = refl
ordered false false true d e f = refl
ordered false false false true e f = refl
ordered false false false false true f = refl
ordered false false false false false true = refl
ordered false false false false false false = refl

-- where the kind is another one, what comes behind doesn't matter
pub later : (a x y z o x' y' z' o' : Bool) → first_of a true x y z o ≡ first_of a true x' y' z' o'
unfolding first_of
later true x y z o x' y' z' o' = refl
later false x y z o x' y' z' o' = refl

pub cause_accepted : (r : Option ℕ) → is_accepted (cause_of r) ≡ is_none r
unfolding cause_of is_accepted
cause_accepted None = refl
cause_accepted (Some n) = refl
