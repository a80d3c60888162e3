use Rattle.backups_parts.proofs.Parting.{pairs}
use Rattle.backups_parts.proofs.pair_in.Goals as goal

pub returns : goal.returns
returns c = search pairs
