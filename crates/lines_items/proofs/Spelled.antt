-- The fewest digits that hold a number are its decimal form.
use mathlib.Core.Path.{◌≡◌, refl, sym, ap, subst, ◌∙◌}
use mathlib.Core.List.{[], ◌∷◌}
use Prim.Native.Nat.{ℕ, zero, suc, ◌+◌, ◌-◌, ◌*◌, ◌/◌, ◌%◌, ◌^◌, ◌≤◌, ◌<◌}
use native.Mathlib.Nat.{add-zero, pow-suc, le_of_eq, le_trans, lt_of_lt_of_le, mod-lt, mod-eq_of_lt}
use native.Mathlib.Omega.{arith}
use borrow.Author.Tests.{lt-ltb, le-ltb}
use mathlib.Core.Logic.{◌⊎◌, inl, inr}
use Rattle.scan.proofs.Tests.{lt_or_le}
use Rattle.io.specs.Digits.{hex_digit_ascii, last_digits, IsDigitCount}
use Rattle.lines_items.specs.Bytes.{decimal_in, decimal}

tens_pos : (k : ℕ) → 1 ≤ 10 ^ k
tens_pos zero = omega arith
tens_pos (suc k) = omega (arith, tens_pos k, pow-suc 10 k)

glyph_is : (n : ℕ) → hex_digit_ascii (n % 10) ≡ 48 + n % 10
glyph_is n = rw (lt-ltb (n % 10) 10 (mod-lt n (omega arith)))

one_digit : (p n : ℕ) → n < 10 → ((48 + n % 10) ∷ []) ≡ decimal_in p n
unfolding decimal_in
one_digit zero n h = refl
one_digit (suc p) n h = rw (lt-ltb n 10 h, mod-eq_of_lt h)

abbrev tens_suc : (k : ℕ) → 10 ^ suc k ≡ 10 ^ k * 10
tens_suc k = pow-suc 10 k

one_less : (k : ℕ) → suc k - 1 ≡ k
one_less k = omega arith

module _ (k n : ℕ) (f : IsDigitCount 10 1 n (suc (suc k))) where
  least_of : 10 ^ suc k ≤ n
  least_of = subst (λ (j : ℕ). 10 ^ j ≤ n) (one_less (suc k)) (f.2 (omega arith))

  fewer : IsDigitCount 10 1 (n / 10) (suc k)
  fewer = (omega arith, omega (arith, f.1, tens_suc (suc k)), λ h. subst (λ (j : ℕ). 10 ^ j ≤ n / 10) (sym (one_less k)) (omega (arith, least_of, tens_suc k)))

  ten_of : 10 ≤ n
  ten_of = omega (arith, least_of, tens_suc k, tens_pos k)

pub spelled_in : (p k n : ℕ) → IsDigitCount 10 1 n k → n < 10 ^ suc p → last_digits 10 k n ≡ decimal_in p n
unfolding decimal_in
spelled_in p zero n f h = absurd (omega (arith, f.0))
spelled_in p (suc zero) n f h = ap (λ (d : ℕ). d ∷ []) (glyph_is n) ∙ one_digit p n f.1
spelled_in zero (suc (suc k)) n f h = absurd (omega (arith, h, ten_of k n f))
spelled_in (suc p) (suc (suc k)) n f h =
    rw (le-ltb n 10 (ten_of k n f), spelled_in p (suc k) (n / 10) (fewer k n f) (omega (arith, h, tens_suc (suc p))), glyph_is n)

one_more : (k j : ℕ) → suc (k + j) ≡ k + suc j
one_more k j = omega arith

tens_grow : (k j : ℕ) → 10 ^ k ≤ 10 ^ (k + j)
tens_grow k zero = le_of_eq (ap (λ (j : ℕ). 10 ^ j) (sym (add-zero k)))
tens_grow k (suc j) = le_trans (tens_grow k j) (subst (λ (i : ℕ). 10 ^ (k + j) ≤ 10 ^ i) (one_more k j) (omega (arith, pow-suc 10 (k + j))))

-- a number of 64 bits has at most 20 digits
pub at_most_twenty : (k n : ℕ) → n < 2 ^ 64 → (1 < k → 10 ^ (k - 1) ≤ n) → k ≤ 20
at_most_twenty k n h above = by (lt_or_le 20 k)
  where
    by : (20 < k) ⊎ (k ≤ 20) → k ≤ 20
    by (inr l) = l
    by (inl l) =
        let e : 20 + (k - 21) ≡ k - 1 = omega arith in
        let g : 10 ^ 20 ≤ 10 ^ (k - 1) = subst (λ (j : ℕ). 10 ^ 20 ≤ 10 ^ j) e (tens_grow 20 (k - 21)) in
        absurd (omega (arith, h, g, above (omega arith)))

-- what `io::decimal` answers is the decimal form
pub spelled : (k n : ℕ) → n < 2 ^ 64 → IsDigitCount 10 1 n k → last_digits 10 k n ≡ decimal n
unfolding decimal
spelled k n h f =
    let most : k ≤ 20 = at_most_twenty k n h f.2 in
    let e : k + (20 - k) ≡ 20 = omega arith in
    spelled_in 19 k n f (lt_of_lt_of_le f.1 (subst (λ (j : ℕ). 10 ^ k ≤ 10 ^ j) e (tens_grow k (20 - k))))
