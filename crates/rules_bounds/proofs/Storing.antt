-- What a size can store: the range, signed or not.
use mathlib.Core.Path.{◌≡◌, ap, ◌∙◌}
use mathlib.Core.Bool.{Bool, true, false}
use Prim.Native.Nat.{ℕ, zero, suc, ◌+◌, ◌*◌, ◌-◌, ◌^◌, ◌≤◌}
use native.Mathlib.Omega.{arith}
use borrow.Author.Rules.{rules}
use lib.IntN.{pos}
use lib.Pow.{pow-add}
use Rattle.cdi.specs.Rules.{smallest, largest}
use Rattle.cdi.specs.Values.{with_sign}
use Rattle.numbers.specs.Held.{low_of, high_of}

twice_half : (n : ℕ) → 1 ≤ n → 2 ^ (8 * n) ≡ 2 ^ (8 * n - 1) + 2 ^ (8 * n - 1)
twice_half zero h = absurd (omega arith)
twice_half (suc n) h = ap (λ (m : ℕ). 2 ^ m) more ∙ twice (8 * suc n - 1)
  where
    more : 8 * suc n ≡ 1 + (8 * suc n - 1)
    more = omega arith

    twice : (m : ℕ) → 2 ^ (1 + m) ≡ 2 ^ m + 2 ^ m
    twice m = let e : 2 ^ (1 + m) ≡ 2 * 2 ^ m = pow-add 2 1 m in omega arith

module _ {signed : Bool} (n : ℕ) {m : ℕ} (e : m ≡ 2 ^ (8 * n - 1)) where
  pub low_signed : signed ≡ true → low_of (record { negative = true; low = m; high = m - 1 }) ≡ smallest signed n
  unfolding low_of smallest with_sign
  low_signed s = rw (s, e)

  pub high_signed : signed ≡ true → high_of (record { negative = true; low = m; high = m - 1 }) ≡ largest signed n
  unfolding high_of largest
  high_signed s = rw (s, e)

  pub low_plain : signed ≡ false → low_of (record { negative = false; low = 0; high = m + (m - 1) }) ≡ smallest signed n
  unfolding low_of smallest with_sign
  low_plain s = rw s

  pub high_plain : 1 ≤ n → 1 ≤ m → signed ≡ false → high_of (record { negative = false; low = 0; high = m + (m - 1) }) ≡ largest signed n
  unfolding high_of largest
  high_plain h k s = rw s (ap pos there)
    where
      there : m + (m - 1) ≡ 2 ^ (8 * n) - 1
      there = omega (arith, twice_half n h)

pub ruleset ranging = (low_signed, high_signed, low_plain, high_plain, rules)
