use Rattle.backups_storing.proofs.Filling.{filling}
use Rattle.backups_storing.proofs.put_blocks.Goals as goal

pub loop-k-preserved : goal.loop-k-preserved
loop-k-preserved c = search filling

pub returns : goal.returns
returns c = search filling
