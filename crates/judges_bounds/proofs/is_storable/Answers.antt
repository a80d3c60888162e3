use Rattle.judges_bounds.proofs.Storing.{storing}
use Rattle.judges_bounds.proofs.is_storable.Goals as goal

pub returns-in-true-true : goal.returns-in-true-true
returns-in-true-true c = search storing

pub returns-in-true-false : goal.returns-in-true-false
returns-in-true-false c = search storing

pub returns-in-false-true : goal.returns-in-false-true
returns-in-false-true c = search storing

pub returns-in-false-false : goal.returns-in-false-false
returns-in-false-false c = search storing
