-- Two's complement by the largest number of a size.
use mathlib.Core.Path.{◌≡◌, refl, ap, ◌∙◌}
use mathlib.Core.List.{List}
use mathlib.Core.Bool.{Bool, true, false}
use Prim.Native.Nat.{ℕ, zero, suc, ◌+◌, ◌-◌, ◌*◌, ◌/◌, ◌^◌, ◌≤◌, ◌<◌}
use native.Mathlib.Nat.{pow-suc}
use native.Mathlib.Numerals.{add-one}
use native.Mathlib.Omega.{arith}
use borrow.Author.Rules.{rules}
use borrow.Author.Tests.{le-leb, lt-leb}
use lib.IntN.{pos, neg_ℤ}
use Rattle.cdi.specs.Values.{with_sign, bytes_of, complement, uncomplement}
use Rattle.cdi.proofs.Quiet.{impossible}
use Rattle.cdi.proofs.Bytes.{halves}
use Rattle.terms.specs.declared.Whole.{Whole}
use Rattle.terms.specs.Wholes.{whole_of, Plain}
use Rattle.values.proofs.Numbering.{room_for_one}

-- ── the largest number of so many bytes ──

pub record Largest (size most i : ℕ) : Type 0 where
  pub is : most + 1 ≡ 256 ^ i
  pub high : i ≤ size
  pub few : size ≤ 8

pub no_byte : (size : ℕ) → size ≤ 8 → Largest size 0 0
no_byte size h = record { is = omega arith; high = omega arith; few = h }

module _ {size most i : ℕ} (v : Largest size most i) where
  pub most_room : i < size → most < 2 ^ 56
  most_room h = room_for_one {i = i} (omega (arith, v.is)) (omega (arith, v.few))

  pub one_byte : {r : ℕ} → i < size → r ≡ most * 256 + 255 → Largest size r (i + 1)
  one_byte {r} h e =
      let more : 256 ^ (i + 1) ≡ 256 ^ i * 256 = ap (λ k. 256 ^ k) (add-one i) ∙ pow-suc 256 i in
      record { is = omega (arith, v.is, more); high = omega arith; few = v.few }

  pub all_bytes : size ≤ i → most + 1 ≡ 256 ^ size
  all_bytes h = let e : i ≡ size = omega (arith, v.high) in rw e at v.is

pub ruleset most_of = (no_byte, most_room, one_byte, all_bytes, rules)

-- ── there ──

module _ (n : ℕ) (w : Whole) where
  pub above_zero : w.negative ≡ false → w.magnitude ≡ complement n (whole_of w)
  unfolding whole_of with_sign complement
  above_zero e = rw e

  pub minus_zero : w.negative ≡ true → w.magnitude ≡ 0 → 0 ≡ complement n (whole_of w)
  unfolding whole_of with_sign complement
  minus_zero e f = rw (e, f)

  pub below_zero : (m : ℕ) → w.negative ≡ true → (w.magnitude ≡ 0 → ⊥) → m + 1 ≡ 256 ^ n → m - (w.magnitude - 1) ≡ complement n (whole_of w)
  unfolding whole_of with_sign complement
  below_zero m e f l = rw e (by w.magnitude f)
    where
      by : (k : ℕ) → (k ≡ 0 → ⊥) → m - (k - 1) ≡ complement n (neg_ℤ (pos k))
      by zero h = absurd (h refl)
      by (suc k) h = omega (arith, l)

  pub not_too_far : (m : ℕ) → w.magnitude ≤ 256 ^ n → m + 1 ≡ 256 ^ n → w.magnitude - 1 ≤ m
  not_too_far m h l = omega arith

pub ruleset complementing = (above_zero, minus_zero, below_zero, not_too_far, rules)

-- ── and back ──

module _ (n v : ℕ) where
  pub unsigned : {s : Bool} → s ≡ false → whole_of (record { negative = false; magnitude = v }) ≡ uncomplement s n v
  unfolding whole_of with_sign uncomplement
  unsigned e = rw e

  module _ {s : Bool} (m : ℕ) (e : s ≡ true) (l : 1 ≤ n) (q : m + 1 ≡ 256 ^ n) where
    pub lower_half : v ≤ m / 2 → whole_of (record { negative = false; magnitude = v }) ≡ uncomplement s n v
    unfolding whole_of with_sign uncomplement
    lower_half h = let k : v < 2 ^ (8 * n - 1) = omega (arith, halves n l) in rw (e, lt-leb (2 ^ (8 * n - 1)) v k)

    pub upper_half : m / 2 < v → v < 256 ^ n → whole_of (record { negative = true; magnitude = m - v + 1 }) ≡ uncomplement s n v
    unfolding whole_of with_sign uncomplement
    upper_half h u =
        let k : 2 ^ (8 * n - 1) ≤ v = omega (arith, halves n l) in
        let d : m - v + 1 ≡ 256 ^ n - v = omega arith in
        rw (e, le-leb (2 ^ (8 * n - 1)) v k, d)

pub plain_positive : (v : ℕ) → Plain (record { negative = false; magnitude = v })
unfolding Plain
plain_positive v e = impossible (cc)

pub plain_negative : (v : ℕ) → Plain (record { negative = true; magnitude = v + 1 })
unfolding Plain
plain_negative v e = omega arith

pub ruleset uncomplementing = (unsigned, lower_half, upper_half, plain_positive, plain_negative, rules)
