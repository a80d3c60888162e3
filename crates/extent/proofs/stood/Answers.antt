use Rattle.extent.proofs.Holding.{made}
use Rattle.extent.proofs.stood.Goals as goal

pub returns : goal.returns
returns c = search made
