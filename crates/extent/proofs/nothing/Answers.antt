use Rattle.extent.proofs.Holding.{nothing_is}
use Rattle.extent.proofs.nothing.Goals as goal

pub returns : goal.returns
returns c = nothing_is
