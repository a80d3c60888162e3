-- A plain leaf, by each way through the code.
use mathlib.Core.Path.{◌≡◌, ◌∙◌}
use mathlib.Core.List.{List}
use mathlib.Core.Bool.{Bool, true, false, cond, not, ◌&&◌, ◌||◌}
use Prim.Native.Nat.{ℕ}
use borrow.Author.Rules.{rules}
use lib.Dec.{eqb, leb}
use Rattle.cdi.specs.Numbers.{number}
use Rattle.rules_judge.specs.declared.Said.TheVariants.{Silent}
use Rattle.rules_judge.specs.Judging.{said_by, is_value}
use Rattle.rules_judge.specs.Parts.{is_numeric, is_limit}
use Rattle.judges_state.specs.declared.Judge.{Judge}
use Rattle.judges_state.specs.Decoded.{said_of, judge_of}
use Rattle.judges_state.specs.Steps.{bounded_by, leaf_by}
use Rattle.judges_state.proofs.Saying.{is_value_law, said_none}
use Rattle.judges_state.proofs.Changed.{changed}

module _ (numeric : Bool) (child : ℕ) {t : Bool} (e : t ≡ is_numeric child) where
  pub asked_said : (v : List ℕ) (said m : ℕ) → (numeric && t) ≡ true → said_of said m ≡ said_by (number v) → said_of said m ≡ cond (numeric && is_numeric child) (said_by (number v)) Silent
  asked_said v said m f g = g ∙ rw (← e, f)

  pub nothing_asked : (v : List ℕ) → (numeric && t) ≡ false → said_of 0 0 ≡ cond (numeric && is_numeric child) (said_by (number v)) Silent
  unfolding said_of
  nothing_asked v f = rw (← e, f)

  pub good_said : (said : ℕ) → (not (numeric && t) || leb 3 said) ≡ (not (numeric && is_numeric child) || is_value (said_of said 0))
  good_said said = rw (e, is_value_law said 0)

pub ruleset leaf_words = (asked_said, nothing_asked, good_said, rules)

pub leaf_by_law : (j r : Judge) (p child entry said m : ℕ) {sound : Bool} → sound ≡ (j.sound && (not (is_limit child) || leb 3 said))
    → judge_of r ≡ bounded_by (judge_of (changed j j.least entry 1 j.magnitude (j.one || eqb entry 1) (j.two || eqb entry 2) sound)) p child (said_of said m)
    → judge_of r ≡ leaf_by (judge_of j) p child entry (said_of said m)
unfolding leaf_by bounded_by judge_of
leaf_by_law j r p child entry said m es er = er ∙ rw (said_none, es, is_value_law said m)

pub ruleset leaves = (leaf_by_law, rules)
