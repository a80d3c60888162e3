use Rattle.backups_reading.proofs.Restoring.{one_payload}
use Rattle.backups_reading.proofs.put_payload.Goals as goal

pub returns : goal.returns
returns c = search one_payload
