-- The number of two bytes, and the last block's flag.
use mathlib.Core.Path.{◌≡◌, refl, ◌∙◌}
use mathlib.Core.List.{List, [], ◌∷◌}
use Prim.Native.Nat.{ℕ, zero, suc, ◌+◌, ◌*◌}
use native.Mathlib.Omega.{arith}
use borrow.Author.Rules.{rules}
use lib.ListN.{length, get_or}
use Rattle.cdi.specs.Values.{value_of, value_from}
use Rattle.blocks.specs.Backups.{last_flag}

-- ── two bytes ──

pub pair_read : (s : List ℕ) (r : ℕ) → length s ≡ 2 → r ≡ get_or s 0 0 * 256 + get_or s 1 0 → r ≡ value_of s
unfolding value_of value_from
pair_read [] r h e = absurd (omega arith)
pair_read (a ∷ []) r h e = absurd (omega arith)
pair_read (a ∷ b ∷ []) r h e = e ∙ omega arith
pair_read (a ∷ b ∷ c ∷ s) r h e = absurd (omega arith)

pub ruleset pairs = (pair_read, rules)

-- ── the flag ──

pub last_one : (behind : ℕ) → behind ≡ 0 → 1 ≡ last_flag behind
unfolding last_flag
last_one zero e = refl
last_one (suc n) e = absurd (omega arith)

pub not_last : (behind : ℕ) → (behind ≡ 0 → ⊥) → 0 ≡ last_flag behind
unfolding last_flag
not_last zero e = absurd (e refl)
not_last (suc n) e = refl

pub ruleset flags = (last_one, not_last)
