-- The contracts determine what the numbers mean: any two answers that a contract allows have the same meaning.
use mathlib.Core.Path.{◌≡◌, sym, ◌∙◌}
use mathlib.Core.List.{List}
use mathlib.Core.Bool.{Bool}
use Prim.Native.Nat.{ℕ}
use Rattle.cdi.specs.Pieces.{text}
use Rattle.cdi.specs.Numbers.{number}
use Rattle.pieces_cuts.specs.Places.{part}
use Rattle.rules_judge.specs.Judging.{said_by, other_of}
use Rattle.judges_state.specs.declared.Judge.{Judge}
use Rattle.judges_state.specs.Decoded.{said_of, judge_of}
use Rattle.judges_state.specs.Steps.{rare_of}

pub told_once : (v : List ℕ) (a m b n : ℕ) → said_of a m ≡ said_by (number v) → said_of b n ≡ said_by (number v) → said_of a m ≡ said_of b n
told_once v a m b n e f = e ∙ sym f

module _ (j q r : Judge) (at : ℕ) where
  pub with_run_once : (s : List ℕ) (end : ℕ) → judge_of q ≡ other_of (judge_of j) at (text (part s at end)) → judge_of r ≡ other_of (judge_of j) at (text (part s at end)) → judge_of q ≡ judge_of r
  with_run_once s end e f = e ∙ sym f

  pub with_rare_once : (refers : Bool) → judge_of q ≡ other_of (judge_of j) at (rare_of refers) → judge_of r ≡ other_of (judge_of j) at (rare_of refers) → judge_of q ≡ judge_of r
  with_rare_once refers e f = e ∙ sym f
