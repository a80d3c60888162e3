-- The contracts determine what the numbers of the judge mean: any two answers that a contract allows have the same meaning.
use mathlib.Core.Path.{◌≡◌, sym, ◌∙◌}
use mathlib.Core.Bool.{Bool, not, ◌&&◌, ◌||◌}
use Prim.Native.Nat.{ℕ}
use lib.Dec.{leb}
use Rattle.rules_judge.specs.Parts.{is_limit}
use Rattle.judges_state.specs.declared.Judge.{Judge}
use Rattle.judges_state.specs.Decoded.{said_of, judge_of}
use Rattle.judges_state.specs.Steps.{bounded_by}

pub bounded_once : (j : Judge) (at child said m : ℕ) (q r : Judge) → judge_of q ≡ bounded_by (judge_of j) at child (said_of said m) → judge_of r ≡ bounded_by (judge_of j) at child (said_of said m) → judge_of q ≡ judge_of r
bounded_once j at child said m q r e f = e ∙ sym f

pub sound_once : (sound turn bare : Bool) (child said : ℕ) {q r : Bool} → q ≡ (sound && (not (is_limit child) || (turn && (bare && leb 3 said))))
    → r ≡ (sound && (not (is_limit child) || (turn && (bare && leb 3 said)))) → q ≡ r
sound_once sound turn bare child said e f = e ∙ sym f
