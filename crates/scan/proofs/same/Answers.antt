use Rattle.scan.proofs.Words.{same_told}
use Rattle.scan.proofs.same.Goals as goal

pub returns : goal.returns
returns c = search same_told
