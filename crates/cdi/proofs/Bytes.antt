-- Byte order and two's complement, once over the size.
use mathlib.Core.Path.{◌≡◌, refl, sym, ap, ◌∙◌}
use mathlib.Core.List.{List, [], ◌∷◌, ◌++◌}
use mathlib.Core.Bool.{Bool, true, false, cond, ◌&&◌, false≢true}
use Prim.Native.Nat.{ℕ, zero, suc, ◌+◌, ◌*◌, ◌-◌, ◌^◌, ◌/◌, ◌%◌, ◌<◌, ◌≤◌}
use native.Mathlib.Nat.{pow-suc, pow-zero, two-pow-succ, div-lt_iff_lt-mul, div-add-mod'}
use native.Mathlib.Omega.{arith}
use native.Mathlib.Decide.{dec_le}
use borrow.Author.Tests.{le-leb, lt-leb, leb-true}
use lib.Dec.{leb}
use lib.IntN.{ℤ, pos, negsuc, neg_ℤ}
use lib.ListN.{length, length-append}
use lib.Pow.{pow-add, pow_pos}
use Rattle.cdi.specs.Rules.{smallest, largest, storable}
use Rattle.cdi.specs.Values.{bytes_of, value_from, value_of, complement, uncomplement}
use Rattle.cdi.proofs.Signs.{up, down, le_up, up_negative, down_negative}
use Rattle.cdi.proofs.Tests.{ends}

value_append : (a : ℕ) (s t : List ℕ) → value_from a (s ++ t) ≡ value_from (value_from a s) t
unfolding value_from
value_append a [] t = refl
value_append a (b ∷ s) t = value_append (a * 256 + b) s t

pub length_bytes : (n v : ℕ) → length (bytes_of n v) ≡ n
unfolding bytes_of
length_bytes zero v = refl
length_bytes (suc n) v = length-append (bytes_of n (v / 256)) (v % 256 ∷ []) ∙ omega (arith, length_bytes n (v / 256))

-- the number that the bytes of v are is v, for every v below 256^n
pub value_of_bytes : (n v : ℕ) → v < 256 ^ n → value_of (bytes_of n v) ≡ v
unfolding bytes_of value_of value_from
value_of_bytes zero v h = omega (arith, rw pow-zero at h)
value_of_bytes (suc n) v h =
    value_append 0 (bytes_of n (v / 256)) (v % 256 ∷ [])
    ∙ rw (value_of_bytes n (v / 256) ((div-lt_iff_lt-mul {k = 256} (omega arith)).1 (rw pow-suc at h))) (div-add-mod' v 256)

-- ── two's complement ──

-- the numbers that n bytes hold
pub eight_bits : (n : ℕ) → 2 ^ (8 * n) ≡ 256 ^ n
eight_bits zero = refl
eight_bits (suc n) =
    let e : 8 * suc n ≡ 8 * n + 8 = omega arith in
    rw (e, pow-add 2 (8 * n) 8, eight_bits n, pow-suc 256 n)

-- twice the half of them
pub halves : (n : ℕ) → 1 ≤ n → 256 ^ n ≡ 2 ^ (8 * n - 1) + 2 ^ (8 * n - 1)
halves n h =
    let e : 8 * n ≡ suc (8 * n - 1) = omega arith in
    sym (eight_bits n) ∙ ap (λ k. 2 ^ k) e ∙ two-pow-succ (8 * n - 1)

-- what can be stored: below the half, at or above its opposite, or unsigned below all
half_above : (n m : ℕ) → storable true n (pos m) ≡ true → m < 2 ^ (8 * n - 1)
unfolding storable smallest largest
half_above n m h =
    let l : m ≤ 2 ^ (8 * n - 1) - 1 = leb-true m (2 ^ (8 * n - 1) - 1) (ends (neg_ℤ (pos (2 ^ (8 * n - 1)))) (pos (2 ^ (8 * n - 1) - 1)) (pos m) h).1 in
    omega (arith, pow_pos (8 * n - 1))

half_below : (n m : ℕ) → storable true n (negsuc m) ≡ true → suc m ≤ 2 ^ (8 * n - 1)
unfolding storable smallest largest up down
half_below n m h =
    let low = neg_ℤ (pos (2 ^ (8 * n - 1))) in
    let l = le_up low (negsuc m) (ends low (pos (2 ^ (8 * n - 1) - 1)) (negsuc m) h).0 in
    omega (arith, l, up_negative (2 ^ (8 * n - 1)), down_negative (2 ^ (8 * n - 1)))

all_above : (n m : ℕ) → storable false n (pos m) ≡ true → m < 256 ^ n
unfolding storable smallest largest
all_above n m h =
    let l : m ≤ 2 ^ (8 * n) - 1 = leb-true m (2 ^ (8 * n) - 1) (ends (pos 0) (pos (2 ^ (8 * n) - 1)) (pos m) h).1 in
    omega (arith, eight_bits n, pow_pos (8 * n))

none_below : (n m : ℕ) → storable false n (negsuc m) ≡ true → ⊥
unfolding storable smallest largest
none_below n m h = false≢true (ends (pos 0) (pos (2 ^ (8 * n) - 1)) (negsuc m) h).0

-- what stands for a number that can be stored fits into the bytes
pub complement_fits : (signed : Bool) (n : ℕ) (z : ℤ) → 1 ≤ n → storable signed n z ≡ true → complement n z < 256 ^ n
unfolding complement
complement_fits true n (pos m) l h = omega (arith, half_above n m h, halves n l)
complement_fits true n (negsuc m) l h = omega (arith, half_below n m h, halves n l)
complement_fits false n (pos m) l h = all_above n m h
complement_fits false n (negsuc m) l h = omega (arith, halves n l, pow_pos (8 * n - 1))

-- two's complement there and back, for every number that can be stored
pub uncomplement_complement : (signed : Bool) (n : ℕ) (z : ℤ) → 1 ≤ n → storable signed n z ≡ true → uncomplement signed n (complement n z) ≡ z
unfolding uncomplement complement
uncomplement_complement true n (pos m) l h = rw (lt-leb (2 ^ (8 * n - 1)) m (half_above n m h))
uncomplement_complement true n (negsuc m) l h =
    let k = half_below n m h in
    let e : 256 ^ n - (256 ^ n - suc m) ≡ suc m = omega (arith, halves n l) in
    rw (le-leb (2 ^ (8 * n - 1)) (256 ^ n - suc m) (omega (arith, halves n l)), e)
uncomplement_complement false n (pos m) l h = refl
uncomplement_complement false n (negsuc m) l h = absurd (none_below n m h)

-- and back and there, for every number of that many bytes
pub complement_uncomplement : (signed : Bool) (n v : ℕ) → 1 ≤ n → v < 256 ^ n → complement n (uncomplement signed n v) ≡ v
unfolding uncomplement complement
complement_uncomplement false n v l h = refl
complement_uncomplement true n v l h = by (dec_le (2 ^ (8 * n - 1)) v)
  where
    opposite : (k : ℕ) → 0 < k → complement n (neg_ℤ (pos k)) ≡ 256 ^ n - k
    opposite zero p = absurd (omega arith)
    opposite (suc k) p = refl

    by : Dec (2 ^ (8 * n - 1) ≤ v) → complement n (cond (true && leb (2 ^ (8 * n - 1)) v) (neg_ℤ (pos (256 ^ n - v))) (pos v)) ≡ v
    by (yes g) = rw (le-leb _ _ g) (opposite (256 ^ n - v) (omega arith) ∙ omega arith)
    by (no g) = rw (lt-leb (2 ^ (8 * n - 1)) v (omega arith))
