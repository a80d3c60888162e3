use Rattle.lines_items.proofs.Putting.{parts}
use Rattle.lines.proofs.put_count.Goals as goal

pub returns-clause-put : goal.returns-clause-put
returns-clause-put c = search parts
