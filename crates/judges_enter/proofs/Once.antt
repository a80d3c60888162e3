-- The contract determines what the numbers of the judge mean: any two answers that it allows have the same meaning.
use mathlib.Core.Path.{◌≡◌, sym, ◌∙◌}
use Prim.Native.Nat.{ℕ}
use Rattle.keys.specs.Keys.{fault_in}
use Rattle.judges_state.specs.declared.Judge.{Judge}
use Rattle.judges_state.specs.Decoded.{judge_of}
use Rattle.judges_state.specs.Steps.{entered_by}

pub enter_once : (j : Judge) (p child entry k : ℕ) (q r : Judge) → judge_of q ≡ entered_by (judge_of j) p child entry (fault_in k) → judge_of r ≡ entered_by (judge_of j) p child entry (fault_in k) → judge_of q ≡ judge_of r
enter_once j p child entry k q r e f = e ∙ sym f
