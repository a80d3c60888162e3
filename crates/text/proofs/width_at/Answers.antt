use Rattle.std.proofs.Common.{sym, ◌∙◌}
use Rattle.text.proofs.Checks.{impossible_bool, none_there, in_both, in_one, in_none}
use Rattle.text.proofs.width_at.Goals as goal
use Rattle.text.proofs.width_at.Goals.{then-is_between, else-is_between}

pub returns-in_err-code : goal.returns-in_err-code
returns-in_err-code c = rw c.from_residual.ensures (none_there _ _ c.in_err-code.ensures)

pub returns-then-is_in : goal.returns-then-is_in
returns-then-is_in c =
    elim c.if-is_between.branch [
      | then-is_between w ↦ in_both _ _ _ c.in_ok-code.ensures c.is_between.ensures w.if-is_between.true
      | else-is_between w ↦ in_one _ _ _ c.in_ok-code.ensures w.is_in.ensures (sym w.value-is ∙ c.if-is_in.true)
    ]

pub returns-else-is_in : goal.returns-else-is_in
returns-else-is_in c =
    elim c.if-is_between.branch [
      | then-is_between w ↦ impossible_bool (sym w.if-is_between.true ∙ sym w.value-is ∙ c.if-is_in.false)
      | else-is_between w ↦ in_none _ _ _ c.in_ok-code.ensures w.is_in.ensures (sym w.value-is ∙ c.if-is_in.false)
    ]
