-- The number rule of request R-1: "drops blanks at both ends and allows a plus sign"; else document 01's: an optional sign and "one or more decimal
-- digits, nothing else; leading zeros are allowed."
use Rattle.std.specs.Prelude.{List, Bool, cond, ◌&&◌, ℕ, ◌-◌, ◌^◌, ℤ, pos, neg_ℤ}
use Rattle.std.proofs.Math.Option.{Option, none, some}
use Rattle.std.specs.Int.Signed.{le_z}
use Rattle.cdi.specs.Lists.{ascii, ◌>>=◌, ◌or_else◌, is_empty, all, after, shorn, strip}
use Rattle.cdi.specs.Pieces.{blank, digit, decimal}

-- a text without the blanks at both ends
unfoldable pub trimmed : List ℕ → List ℕ
trimmed s = shorn blank (after blank s)

unfoldable pub digits : List ℕ → Option ℕ
digits s = cond (is_empty s) none (cond (all digit s) (some (decimal 0 s)) none)

-- an optional plus or minus, and digits
unfoldable pub signed_digits : List ℕ → Option ℤ
signed_digits s =
    (strip (ascii "-") s >>= λ t. digits t >>= λ n. some (neg_ℤ (pos n)))
    or_else (strip (ascii "+") s >>= λ t. digits t >>= λ n. some (pos n))
    or_else (digits s >>= λ n. some (pos n))

unfoldable pub number : List ℕ → Option ℤ
number s = signed_digits (trimmed s)

unfoldable pub within : ℤ → ℤ → ℤ → Bool
within lo hi z = le_z lo z && le_z z hi

-- "numbers from -2^63 to 2^64 - 1"
unfoldable pub bounded : ℤ → Bool
bounded z = within (neg_ℤ (pos (2 ^ 63))) (pos (2 ^ 64 - 1)) z

unfoldable pub numbers_page : Unit {0}
unfolding trimmed digits signed_digits number within bounded
numbers_page = tt
