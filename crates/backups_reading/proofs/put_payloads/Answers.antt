use Rattle.backups_reading.proofs.Restoring.{returning}
use Rattle.backups_reading.proofs.put_payloads.Goals as goal

pub loop-k-init : goal.loop-k-init
loop-k-init c = search returning

pub loop-k-preserved : goal.loop-k-preserved
loop-k-preserved c = search returning

pub returns : goal.returns
returns c = search returning
