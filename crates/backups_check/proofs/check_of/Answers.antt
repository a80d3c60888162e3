use Rattle.backups_check.proofs.Summing.{summing}
use Rattle.backups_check.proofs.check_of.Goals as goal

pub loop-k-preserved : goal.loop-k-preserved
loop-k-preserved c = search summing

pub returns : goal.returns
returns c = search summing
