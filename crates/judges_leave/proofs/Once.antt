-- The contract determines what the numbers of the judge mean: any two answers that it allows have the same meaning.
use mathlib.Core.Path.{◌≡◌, sym, ◌∙◌}
use mathlib.Core.Bool.{Bool}
use Prim.Native.Nat.{ℕ}
use Rattle.judges_state.specs.declared.Judge.{Judge}
use Rattle.judges_state.specs.Decoded.{judge_of}
use Rattle.judges_state.specs.Steps.{left_by}

pub leave_once : (j : Judge) (at child entry size : ℕ) (bare : Bool) (inner q r : Judge) → judge_of q ≡ left_by (judge_of j) at child entry bare size (judge_of inner)
    → judge_of r ≡ left_by (judge_of j) at child entry bare size (judge_of inner) → judge_of q ≡ judge_of r
leave_once j at child entry size bare inner q r e f = e ∙ sym f
