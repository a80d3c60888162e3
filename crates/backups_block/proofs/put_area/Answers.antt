use Rattle.backups_block.proofs.Putting.{putting}
use Rattle.backups_block.proofs.put_area.Goals as goal

pub returns : goal.returns
returns c = search putting
