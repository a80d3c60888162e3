use Rattle.std.proofs.Common.{rules}
use Rattle.cdi.specs.Plans.{field}
use Rattle.locate_rows.proofs.field.Goals as goal

pub returns : goal.returns
unfolding field
returns c = search rules
