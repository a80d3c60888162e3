-- The check: a changed byte moves the sum, and by less than 65,535.
use mathlib.Core.Path.{◌≡◌, refl}
use mathlib.Core.List.{List, [], ◌∷◌}
use mathlib.Core.Logic.{◌⊎◌, inl, inr, ⊎_elim}
use Prim.Native.Nat.{ℕ, zero, suc, ◌+◌, ◌*◌, ◌/◌, ◌%◌, ◌<◌}
use native.Mathlib.Omega.{arith}
use lib.ListN.{length, get_or, set}
use Rattle.blocks.specs.Blocks.{words, sum, check_of}

-- the sum afterwards, where a byte in a word's upper or lower half becomes v
abbrev Moved : ℕ → ℕ → ℕ → ℕ → Type 0
Moved before after old v = (after + 256 * old ≡ before + 256 * v) ⊎ (after + old ≡ before + v)

moved : (s : List ℕ) (i v : ℕ) → i < length s → length s % 2 ≡ 0 → Moved (sum (words s)) (sum (words (set s i v))) (get_or s i 0) v
unfolding words sum
moved [] i v h e = absurd (omega arith)
moved (a ∷ []) i v h e = absurd (omega arith)
moved (a ∷ b ∷ s) zero v h e = inl (omega arith)
moved (a ∷ b ∷ s) (suc zero) v h e = inr (omega arith)
moved (a ∷ b ∷ s) (suc (suc i)) v h e = ⊎_elim (λ m. inl (omega arith)) (λ m. inr (omega arith)) (moved s i v (omega arith) (omega arith))

-- a move by 1 to 65,280 is no multiple of 65,535
same_byte : (before after old v : ℕ) → Moved before after old v → old < 256 → v < 256 → after % 65535 ≡ before % 65535 → v ≡ old
same_byte before after old v (inl m) o h e = let q : after / 65535 ≡ before / 65535 = omega arith in omega arith
same_byte before after old v (inr m) o h e = omega arith

-- "Any change of a single byte in a block must be noticed", by the sum, for a byte among those summed
pub check_moves : (s : List ℕ) (i v : ℕ) → i < length s → length s % 2 ≡ 0 → get_or s i 0 < 256 → v < 256 → (v ≡ get_or s i 0 → ⊥) → check_of (set s i v) ≡ check_of s → ⊥
unfolding check_of
check_moves s i v h e o l n c = n (same_byte (sum (words s)) (sum (words (set s i v))) (get_or s i 0) v (moved s i v h e) o l c)
