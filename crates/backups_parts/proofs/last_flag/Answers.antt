use Rattle.backups_parts.proofs.Parting.{flags}
use Rattle.backups_parts.proofs.last_flag.Goals as goal

pub returns-then-behind-eq0 : goal.returns-then-behind-eq0
returns-then-behind-eq0 c = search flags

pub returns-else-behind-eq0 : goal.returns-else-behind-eq0
returns-else-behind-eq0 c = search flags
