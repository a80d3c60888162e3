-- The contracts determine what the numbers mean: any two answers that a contract allows have the same meaning.
use mathlib.Core.Path.{◌≡◌, sym, ◌∙◌}
use mathlib.Core.List.{List}
use mathlib.Core.Bool.{Bool, cond, not, ◌&&◌, ◌||◌}
use Prim.Native.Nat.{ℕ}
use Rattle.cdi.specs.Numbers.{number}
use Rattle.rules_judge.specs.declared.Said.TheVariants.{Silent}
use Rattle.rules_judge.specs.Judging.{said_by, is_value}
use Rattle.rules_judge.specs.Parts.{is_numeric}
use Rattle.judges_state.specs.declared.Judge.{Judge}
use Rattle.judges_state.specs.Decoded.{said_of, judge_of}
use Rattle.judges_state.specs.Steps.{leaf_by}

module _ (numeric : Bool) (child : ℕ) where
  pub leaf_said_once : (v : List ℕ) (a m b n : ℕ) → said_of a m ≡ cond (numeric && is_numeric child) (said_by (number v)) Silent
      → said_of b n ≡ cond (numeric && is_numeric child) (said_by (number v)) Silent → said_of a m ≡ said_of b n
  leaf_said_once v a m b n e f = e ∙ sym f

  pub is_leaf_good_once : (said : ℕ) {q r : Bool} → q ≡ (not (numeric && is_numeric child) || is_value (said_of said 0)) → r ≡ (not (numeric && is_numeric child) || is_value (said_of said 0)) → q ≡ r
  is_leaf_good_once said e f = e ∙ sym f

pub with_leaf_once : (j : Judge) (at child entry said m : ℕ) (q r : Judge) → judge_of q ≡ leaf_by (judge_of j) at child entry (said_of said m)
    → judge_of r ≡ leaf_by (judge_of j) at child entry (said_of said m) → judge_of q ≡ judge_of r
with_leaf_once j at child entry said m q r e f = e ∙ sym f
