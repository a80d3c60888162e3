use Rattle.tags_faults.proofs.Ruled.{bits}
use Rattle.tags_faults.proofs.is_among.Goals as goal

pub returns : goal.returns
returns c = search bits
