use Rattle.formatting.proofs.Formats.{tails}
use Rattle.formatting.proofs.is_tail.Goals as goal

pub returns : goal.returns
returns c = search tails
