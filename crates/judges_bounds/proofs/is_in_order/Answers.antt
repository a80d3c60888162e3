use Rattle.judges_bounds.proofs.Storing.{asking}
use Rattle.judges_bounds.proofs.is_in_order.Goals as goal

pub returns-else-not-asked : goal.returns-else-not-asked
returns-else-not-asked c = search asking
