use Rattle.std.proofs.Common.{◌∙◌}
use Rattle.contents.proofs.Owning.{is_number, no_number}
use Rattle.contents.proofs.own_number.Goals as goal

pub returns-in_err-own_text : goal.returns-in_err-own_text
returns-in_err-own_text c = c.from_residual.ensures ∙ no_number c.in_err-own_text.ensures

pub returns : goal.returns
returns c = is_number c.in_ok-own_text.ensures c.read_number.ensures
