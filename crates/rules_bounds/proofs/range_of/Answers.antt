use Rattle.rules_bounds.proofs.Storing.{ranging}
use Rattle.rules_bounds.proofs.range_of.Goals as goal

pub returns-then-signed-clause-low : goal.returns-then-signed-clause-low
returns-then-signed-clause-low c = search ranging

pub returns-then-signed-clause-high : goal.returns-then-signed-clause-high
returns-then-signed-clause-high c = search ranging

pub returns-else-signed-clause-low : goal.returns-else-signed-clause-low
returns-else-signed-clause-low c = search ranging

pub returns-else-signed-clause-high : goal.returns-else-signed-clause-high
returns-else-signed-clause-high c = search ranging
