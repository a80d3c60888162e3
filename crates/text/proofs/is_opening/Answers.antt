use Rattle.std.proofs.Common.{rules}
use Rattle.cdi.specs.Text.{first_line}
use Rattle.text.proofs.is_opening.Goals as goal

pub returns : goal.returns
unfolding first_line
returns c = search rules
