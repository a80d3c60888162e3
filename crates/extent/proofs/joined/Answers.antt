use Rattle.extent.proofs.Holding.{made}
use Rattle.extent.proofs.joined.Goals as goal

pub returns : goal.returns
returns c = search made
