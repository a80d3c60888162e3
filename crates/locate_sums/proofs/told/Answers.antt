use Rattle.locate_sums.proofs.Limits.{telling}
use Rattle.locate_sums.proofs.told.Goals as goal

pub returns-then-equals : goal.returns-then-equals
returns-then-equals c = search telling

pub returns-else-equals : goal.returns-else-equals
returns-else-equals c = search telling
