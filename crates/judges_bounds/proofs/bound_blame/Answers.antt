use Rattle.judges_bounds.proofs.Storing.{bound_faults}
use Rattle.judges_bounds.proofs.bound_blame.Goals as goal

pub returns : goal.returns
returns c = search bound_faults
