use Rattle.backups_check.proofs.Summing.{checking}
use Rattle.backups_check.proofs.is_checked.Goals as goal

pub returns : goal.returns
returns c = search checking
