-- What the answers of this crate say.
use Rattle.std.specs.Prelude.{◌≡◌, List, Bool, false, cond, ◌&&◌, ℕ, ◌-◌, eqb, ltb, get_or}
use Rattle.cdi.specs.Pieces.{blank}
use Rattle.scan.specs.Spans.{span_end}
use Rattle.pieces_cuts.specs.Cuts.{Stands}
use Rattle.marks_cuts.specs.Marks.{text_cut, bad_cut}

-- `]]` stands right before a place, and not before `from`
unfoldable pub bracketed : List ℕ → ℕ → ℕ → Bool
bracketed s from at = cond (ltb (at - from) 2) false (eqb (get_or s (at - 1) 0) 93 && eqb (get_or s (at - 2) 0) 93)

-- the run at a place ends before e, or is malformed where e is 0; b is behind the blanks at that place
pub record Runs (s : List ℕ) (at e b : ℕ) : Type 0 where
  pub text : (e ≡ 0 → ⊥) → Stands s at (text_cut at e b)
  pub bad : e ≡ 0 → Stands s at (bad_cut s at)
  pub solid : b ≡ span_end blank s at
