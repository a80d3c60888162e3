-- The stages in their order: what was opened is planned.
use mathlib.Core.Path.{◌≡◌, sym, ap, ◌∙◌}
use mathlib.Core.List.{List}
use Prim.Native.Nat.{ℕ, ◌-◌}
use native.Mathlib.Omega.{arith}
use borrow.Author.Rules.{rules}
use lib.IntN.{ℤ}
use lib.ListN.{length, take, drop}
use Rattle.std.specs.Prelude.{Result, Ok, Err}
use Rattle.cdi.specs.Faults.{Answer, refused, ◌and_then◌}
use Rattle.cdi.specs.Planning.{ending, characters, opening, planned, described, table_after}
use Rattle.plan_opening.specs.Openings.{opened_of}
use Rattle.plan_opening.proofs.Lent.{lent_end, lent_long, lent_short}
use Rattle.refusals.specs.declared.Refusal.{Refusal}
use Rattle.refusals.specs.Refusals.{fault_of}
use Rattle.plan_stages.specs.declared.Planned.{Planned}
use Rattle.plan_stages.specs.Outlines.{Outline, outline_of, of_markup, answer_of, planned_by, after_by}
use Rattle.plan_table.proofs.Placing.{planned_so, written_so}

module _ (b : List ℕ) {o : Result ℕ Refusal} (e : opened_of b o ≡ (ending b and_then characters and_then opening)) where
  module _ {r : Refusal} (q : o ≡ Err r) where
    not_opened : outline_of b ≡ refused (fault_of r)
    unfolding outline_of described opened_of
    not_opened = sym (rw (sym e ∙ ap (opened_of b) q))

    pub refused_planned : (t : List ℤ) → answer_of (Err r) ≡ planned b t
    refused_planned t = planned_so b t (sym (unfold planned_by in rw not_opened))

    pub refused_written : (t : List ℤ) → t ≡ table_after b t
    refused_written t = written_so b t (sym (unfold after_by in rw not_opened))

  module _ {z : ℕ} (q : o ≡ Ok z) where
    was_opened : outline_of b ≡ of_markup (take (z - 0) (drop 0 b))
    unfolding outline_of described opened_of of_markup
    was_opened = let l : z - 0 ≡ z = omega arith in rw (sym e ∙ ap (opened_of b) q, l)

    pub opened_planned : (t : List ℤ) {r : Result Planned Refusal} → r ≡ planned_by (of_markup (take (z - 0) (drop 0 b))) (length t) → answer_of r ≡ planned b t
    opened_planned t k = planned_so b t (k ∙ sym (ap (λ (a : Answer Outline). planned_by a (length t)) was_opened))

    pub opened_written : (t : List ℤ) {u : List ℤ} → u ≡ after_by (of_markup (take (z - 0) (drop 0 b))) t → u ≡ table_after b t
    opened_written t k = written_so b t (k ∙ sym (ap (λ (a : Answer Outline). after_by a t) was_opened))

pub ruleset staging = (refused_planned, refused_written, opened_planned, opened_written, lent_end, lent_long, lent_short, rules)
