-- Tests that pass: what a joined test says of its parts, and back.
use mathlib.Core.Path.{◌≡◌, refl, sym}
use mathlib.Core.Bool.{Bool, true, false, ◌&&◌, ◌||◌, false≢true}
use lib.IntN.{ℤ}
use lib.Signed.{le_z}
use Rattle.cdi.specs.Numbers.{within}

-- each part passes where the two joined do
pub both_left : (x y : Bool) → (x && y) ≡ true → x ≡ true
both_left true y e = refl
both_left false y e = e

pub both_right : (x y : Bool) → (x && y) ≡ true → y ≡ true
both_right true y e = e
both_right false y e = absurd (false≢true e)

pub parts : (x y : Bool) → (x && y) ≡ true → (x ≡ true) × (y ≡ true)
parts x y e = (both_left x y e, both_right x y e)

pub both : {x y : Bool} → x ≡ true → y ≡ true → (x && y) ≡ true
both p q = rw (p, q)

-- neither part passes where the two, either of which would do, don't
pub neither_left : (x y : Bool) → (x || y) ≡ false → x ≡ false
neither_left true y e = e
neither_left false y e = refl

pub neither_right : (x y : Bool) → (x || y) ≡ false → y ≡ false
neither_right true y e = absurd (false≢true (sym e))
neither_right false y e = e

-- a number in a range is above its lower end and below its upper one
pub ends : (lo hi z : ℤ) → within lo hi z ≡ true → (le_z lo z ≡ true) × (le_z z hi ≡ true)
unfolding within
ends lo hi z h = parts (le_z lo z) (le_z z hi) h

pub in_range : (lo hi z : ℤ) → le_z lo z ≡ true → le_z z hi ≡ true → within lo hi z ≡ true
unfolding within
in_range lo hi z l h = both l h
