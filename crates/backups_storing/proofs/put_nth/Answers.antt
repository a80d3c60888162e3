use Rattle.backups_storing.proofs.Filling.{nth}
use Rattle.backups_storing.proofs.put_nth.Goals as goal

pub returns : goal.returns
returns c = search nth
