use Rattle.values.proofs.Numbering.{storing}
use Rattle.values.proofs.put_number.Goals as goal

pub loop-i-preserved : goal.loop-i-preserved
loop-i-preserved c = search storing

pub returns : goal.returns
returns c = search storing
