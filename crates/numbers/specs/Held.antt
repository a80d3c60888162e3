-- Numbers as the code holds them, and what its answers mean.
use Rattle.std.specs.Prelude as std
use Rattle.std.specs.Prelude.{◌≡◌, Bool, true, false, cond, not, ◌||◌, ℕ, suc, ◌+◌, ◌*◌, ◌-◌, ◌^◌, eqb, ltb, ℤ, pos, negsuc}
use Rattle.std.proofs.Math.Option.{Option, none, some}
use Rattle.cdi.specs.Values.{with_sign}
use Rattle.numbers.specs.declared.Signed.{Signed}
use Rattle.numbers.specs.declared.Range.{Range}

-- a sign and a magnitude, which is large where 64 bits don't hold it
unfoldable pub held : Bool → ℕ → Signed
held negative n =
    cond (ltb n (2 ^ 64))
    (record { negative = negative; magnitude = n; large = false })
    (record { negative = negative; magnitude = 0; large = true })

-- "minus zero is zero"
unfoldable pub signed_of : ℤ → Signed
signed_of (pos n) = held false n
signed_of (negsuc n) = held true (suc n)

-- what the reader answers
unfoldable pub number_of : Option ℤ → std.Option Signed
number_of none = std.None
number_of (some z) = std.Some (signed_of z)

-- what it answers of digits without a sign
unfoldable pub digits_of : Option ℕ → std.Option Signed
digits_of none = std.None
digits_of (some n) = std.Some (held false n)

-- one digit more
unfoldable pub one_more : Signed → ℕ → Signed
one_more n b = cond n.large n (held n.negative (n.magnitude * 10 + (b - 48)))

unfoldable pub minus_of : Signed → Signed
minus_of n = record { negative = n.large || not (eqb n.magnitude 0); magnitude = n.magnitude; large = n.large }

unfoldable pub size_of : Signed → ℕ
size_of n = cond n.large (2 ^ 64) n.magnitude

-- the number that is held; of the large ones, the first
unfoldable pub nearest : Signed → ℤ
nearest n = with_sign n.negative (size_of n)

-- the bounds of a range
unfoldable pub low_of : Range → ℤ
low_of r = with_sign r.negative r.low

unfoldable pub high_of : Range → ℤ
high_of r = pos r.high

-- what an answer about a number that was read says of the number itself
pub record Judges (n : Signed) (test : ℤ → Bool) (r : Bool) : Type 0 where
  pub of : (z : ℤ) → n ≡ signed_of z → r ≡ test z
