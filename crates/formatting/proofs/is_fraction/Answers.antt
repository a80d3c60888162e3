use Rattle.formatting.proofs.Formats.{no_fraction, fraction}
use Rattle.formatting.proofs.is_fraction.Goals as goal

pub returns-in_default : goal.returns-in_default
returns-in_default c = no_fraction _ c.in_default.ensures.cases

pub returns : goal.returns
returns c = fraction _ c.in-Some.ensures.cases.0 c.in-Some.ensures.cases.1 c.is_tail.ensures
