use Rattle.lines_items.proofs.Putting.{parts}
use Rattle.lines_items.proofs.put_next.Goals as goal

pub returns-clause-put : goal.returns-clause-put
returns-clause-put c = search parts
