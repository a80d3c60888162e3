-- The contract determines the fault that the key means: any two answers that it allows mean the same.
use mathlib.Core.Path.{◌≡◌, sym, ◌∙◌}
use Prim.Native.Nat.{ℕ}
use Rattle.rules_judge.specs.Judging.{blamed, bound_blame}
use Rattle.judges_state.specs.declared.Judge.{Judge}
use Rattle.judges_state.specs.Decoded.{least_in, judge_of}
use Rattle.judges_state.specs.Steps.{size_at}

pub bound_blame_once : (l p n : ℕ) (i : Judge) (q r : ℕ) → least_in q ≡ blamed (least_in l) (bound_blame p (size_at n) (judge_of i).low (judge_of i).high)
    → least_in r ≡ blamed (least_in l) (bound_blame p (size_at n) (judge_of i).low (judge_of i).high) → least_in q ≡ least_in r
bound_blame_once l p n i q r e f = e ∙ sym f
