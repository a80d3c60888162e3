-- The test of a block's length, as the code makes it.
use Rattle.std.proofs.Common.{◌≡◌, refl, Bool, true, false, ◌&&◌, ℕ, zero, suc, ◌≤◌, ◌↔◌, IsTrue, arith}
use borrow.Author.Tests.{le-leb, leb-true}
use lib.Dec.{eqb, leb}
use Rattle.cdi.specs.Lists.{between}
use Rattle.blocks.specs.Backups.{is_length_good}

pub last_long : (behind n : ℕ) (r : Bool) → behind ≡ 0 → (IsTrue r ↔ ((1 ≤ n) × (n ≤ 502))) → r ≡ is_length_good behind n
unfolding is_length_good between
last_long zero n true e h = let b = h.0 refl in rw (le-leb 1 n b.0, le-leb n 502 b.1)
last_long zero n false e h = by (leb 1 n) (leb n 502) refl refl
  where
    by : (x y : Bool) → leb 1 n ≡ x → leb n 502 ≡ y → false ≡ (x && y)
    by true true p q = h.1 (leb-true 1 n p, leb-true n 502 q)
    by true false p q = refl
    by false y p q = refl
last_long (suc m) n r e h = absurd (omega arith)

pub others_full : (behind n : ℕ) → (behind ≡ 0 → ⊥) → eqb n 502 ≡ is_length_good behind n
unfolding is_length_good
others_full zero n e = absurd (e refl)
others_full (suc m) n e = refl
