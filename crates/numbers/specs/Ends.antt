-- Both ends of a number as the code meets them: the sign in front, the blanks behind.
use Rattle.std.specs.Prelude.{◌≡◌, List, [], ◌∷◌, Bool, cond, Option, Some, None, not, ◌&&◌, ◌||◌, ℕ, ◌+◌, eqb, drop, get_or}
use Rattle.cdi.specs.Lists.{all, begins}
use Rattle.cdi.specs.Pieces.{blank}
use Rattle.scan.specs.Spans.{Span}
use Rattle.numbers.specs.declared.Signed.{Signed}

-- the number n, where digits stand before the place and only blanks from there on
unfoldable pub ended_by : List ℕ → ℕ → Signed → Option Signed
ended_by s at n = cond (not (eqb at 0) && all blank (drop at s)) (Some n) None

unfoldable pub is_sign : ℕ → Bool
is_sign b = eqb b 45 || eqb b 43

-- the place behind the sign, if one stands there
unfoldable pub behind_sign : List ℕ → ℕ → ℕ
behind_sign s at = cond (is_sign (get_or s at 0)) (at + 1) at

-- the digits begin at this place, behind blanks and a sign, which is a minus or not
pub record Starts (s : List ℕ) (at : ℕ) (minus : Bool) : Type 0 where
  pub from : ℕ
  pub blanks : Span blank s 0 from
  pub sign : at ≡ behind_sign s from
  pub negative : minus ≡ begins (45 ∷ []) (drop from s)
