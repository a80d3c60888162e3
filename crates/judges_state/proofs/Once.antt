-- The contracts determine what the numbers of a judge mean: any two answers that a contract allows have the same meaning.
use mathlib.Core.Path.{◌≡◌, sym, ◌∙◌}
use mathlib.Core.Bool.{Bool, false}
use Prim.Native.Nat.{ℕ}
use Rattle.std.specs.Prelude.{None}
use Rattle.rules_judge.specs.Judging.{fresh}
use Rattle.judges_state.specs.declared.Judge.{Judge}
use Rattle.judges_state.specs.Decoded.{least_in, judge_of}

module _ (q r : Judge) where
  pub fresh_once : (least row : ℕ) (numeric : Bool) → judge_of q ≡ fresh (least_in least) row numeric → judge_of r ≡ fresh (least_in least) row numeric → judge_of q ≡ judge_of r
  fresh_once least row numeric e f = e ∙ sym f

  pub start_once : judge_of q ≡ fresh None 0 false → judge_of r ≡ fresh None 0 false → judge_of q ≡ judge_of r
  start_once e f = e ∙ sym f
