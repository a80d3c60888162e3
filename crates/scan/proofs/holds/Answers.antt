use Rattle.std.proofs.Common.{◌∙◌}
use Rattle.scan.proofs.Words.{held}
use Rattle.scan.proofs.holds.Goals as goal

pub returns : goal.returns
returns c = c.contains.ensures.value ∙ held _ _
