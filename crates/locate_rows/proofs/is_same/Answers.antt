use Rattle.locate_rows.proofs.Comparing.{comparing}
use Rattle.locate_rows.proofs.is_same.Goals as goal

pub returns : goal.returns
returns c = search comparing
