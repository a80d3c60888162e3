use Rattle.lines_items.proofs.Putting.{parts}
use Rattle.lines_items.proofs.put_kind.Goals as goal

pub returns-in-3-clause-put : goal.returns-in-3-clause-put
returns-in-3-clause-put c = search parts

pub returns-in-4-clause-put : goal.returns-in-4-clause-put
returns-in-4-clause-put c = search parts

pub returns-in-5-clause-put : goal.returns-in-5-clause-put
returns-in-5-clause-put c = search parts

pub returns-in_default-clause-put : goal.returns-in_default-clause-put
returns-in_default-clause-put c = search parts
