-- What the answers of this crate say.
use Rattle.std.specs.Prelude.{◌≡◌, List, [], ◌∷◌, ◌++◌, cond, ℕ, ◌+◌, ◌-◌, drop}
use Rattle.cdi.specs.Lists.{same, begins}
use Rattle.pieces_cuts.specs.Places.{part}
use Rattle.pieces_cuts.specs.Cuts.{Stands}
use Rattle.marks_cuts.specs.Marks.{finish_cut, bad_cut}

-- the end tag at a place ends before e, and its name before n; it is malformed where e is 0
pub record Finishes (s : List ℕ) (at n e : ℕ) : Type 0 where
  pub tag : (e ≡ 0 → ⊥) → Stands s at (finish_cut at n e)
  pub bad : e ≡ 0 → Stands s at (bad_cut s at)
  pub none : e ≡ 0 → n ≡ 0

-- the place behind `>` where the name from `from` to before `to` stands at a place too, with `>` right behind it; else 0
unfoldable pub shut_end : List ℕ → ℕ → ℕ → ℕ → ℕ
shut_end s from to at = cond (begins (part s from to ++ (62 ∷ [])) (drop at s)) (at + (to - from) + 1) 0

-- the end tag at a place against the name from `from` to before `to`: k is 4 where it is malformed, 0 where it has that name, and else 6
pub record Closes (s : List ℕ) (from to at k n e : ℕ) : Type 0 where
  pub tag : (k ≡ 4 → ⊥) → Stands s at (finish_cut at n e)
  pub number : (k ≡ 4 → ⊥) → k ≡ cond (same (part s from to) (part s (at + 2) n)) 0 6
  pub bad : k ≡ 4 → Stands s at (bad_cut s at)
  pub none : k ≡ 4 → (n ≡ 0) × (e ≡ 0)
