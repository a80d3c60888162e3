-- Whole numbers for `omega`: z is what it is up less what it is down, two natural numbers of which one is 0, so that a fact of ℤ becomes one of ℕ.
use mathlib.Core.Path.{◌≡◌, refl, sym, ap, ◌∙◌}
use mathlib.Core.Bool.{true, false≢true}
use Prim.Native.Nat.{ℕ, zero, suc, ◌+◌, ◌*◌, ◌≤◌, ◌<◌}
use native.Mathlib.Nat.{mul-zero}
use native.Mathlib.Omega.{arith}
use native.Mathlib.Decide.{dec_lt}
use borrow.Author.Tests.{lt-ltb, le-ltb, le-leb, leb-true, eqb-true, eq-eqb}
use lib.IntN.{ℤ, pos, negsuc, neg_ℤ, sub_ℕ, ◌+ℤ◌, ◌*ℤ◌}
use lib.Signed.{le_z}
use Rattle.cdi.specs.Table.{same_number}

unfoldable pub up : ℤ → ℕ
up (pos n) = n
up (negsuc n) = 0

unfoldable pub down : ℤ → ℕ
down (pos n) = 0
down (negsuc n) = suc n

difference : (m n : ℕ) → up (sub_ℕ m n) + n ≡ down (sub_ℕ m n) + m
unfolding up down
difference m n = by (dec_lt m n)
  where
    by : Dec (m < n) → up (sub_ℕ m n) + n ≡ down (sub_ℕ m n) + m
    by (yes l) = rw (lt-ltb m n l) (omega arith)
    by (no l) = rw (le-ltb m n (omega arith)) (omega arith)

-- a sum
pub sum : (y z : ℤ) → up (y +ℤ z) + (down y + down z) ≡ down (y +ℤ z) + (up y + up z)
unfolding up down
sum (pos m) (pos n) = omega arith
sum (pos m) (negsuc n) = omega (arith, difference m (suc n))
sum (negsuc m) (pos n) = omega (arith, difference n (suc m))
sum (negsuc m) (negsuc n) = omega arith

-- a number below zero, from its size
pub up_negative : (n : ℕ) → up (neg_ℤ (pos n)) ≡ 0
unfolding up
up_negative zero = refl
up_negative (suc n) = refl

pub down_negative : (n : ℕ) → down (neg_ℤ (pos n)) ≡ n
unfolding down
down_negative zero = refl
down_negative (suc n) = refl

pub nought : (z : ℤ) → up z ≡ 0 → down z ≡ 0 → z ≡ pos 0
unfolding up down
nought (pos m) u d = ap pos u
nought (negsuc m) u d = absurd (omega arith)

-- a multiple
pub up_times : (q : ℕ) (z : ℤ) → up (pos q *ℤ z) ≡ q * up z
unfolding up
up_times q (pos m) = refl
up_times q (negsuc m) = up_negative (q * suc m) ∙ sym (mul-zero q)

pub down_times : (q : ℕ) (z : ℤ) → down (pos q *ℤ z) ≡ q * down z
unfolding down
down_times q (pos m) = sym (mul-zero q)
down_times q (negsuc m) = down_negative (q * suc m)

-- an order, there and back
pub le_up : (y z : ℤ) → le_z y z ≡ true → up y + down z ≤ up z + down y
unfolding up down
le_up (pos m) (pos n) h = omega (arith, leb-true m n h)
le_up (pos m) (negsuc n) h = absurd (false≢true h)
le_up (negsuc m) (pos n) h = omega arith
le_up (negsuc m) (negsuc n) h = omega (arith, leb-true n m h)

pub up_le : (y z : ℤ) → up y + down z ≤ up z + down y → le_z y z ≡ true
unfolding up down
up_le (pos m) (pos n) h = le-leb m n (omega arith)
up_le (pos m) (negsuc n) h = absurd (omega arith)
up_le (negsuc m) (pos n) h = refl
up_le (negsuc m) (negsuc n) h = le-leb n m (omega arith)

pub le_trans : (x y z : ℤ) → le_z x y ≡ true → le_z y z ≡ true → le_z x z ≡ true
le_trans x y z l m = up_le x z (omega (arith, le_up x y l, le_up y z m))

-- an equation
pub up_same : (y z : ℤ) → up y + down z ≡ up z + down y → y ≡ z
unfolding up down
up_same (pos m) (pos n) h = ap pos (omega arith)
up_same (pos m) (negsuc n) h = absurd (omega arith)
up_same (negsuc m) (pos n) h = absurd (omega arith)
up_same (negsuc m) (negsuc n) h = ap negsuc (omega arith)

-- the test of two numbers, there and back
pub same_number_law : (y z : ℤ) → same_number y z ≡ true → y ≡ z
unfolding same_number
same_number_law (pos m) (pos n) h = ap pos (eqb-true m n h)
same_number_law (pos m) (negsuc n) h = absurd (false≢true h)
same_number_law (negsuc m) (pos n) h = absurd (false≢true h)
same_number_law (negsuc m) (negsuc n) h = ap negsuc (eqb-true m n h)

pub number_same : (z : ℤ) → same_number z z ≡ true
unfolding same_number
number_same (pos m) = eq-eqb m m refl
number_same (negsuc m) = eq-eqb m m refl
