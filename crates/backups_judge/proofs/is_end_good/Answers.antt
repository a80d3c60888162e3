use Rattle.backups_judge.proofs.Judging.{ends}
use Rattle.backups_judge.proofs.is_end_good.Goals as goal

pub returns-then-b-last_flag : goal.returns-then-b-last_flag
returns-then-b-last_flag c = search ends

pub returns-else-b-last_flag : goal.returns-else-b-last_flag
returns-else-b-last_flag c = search ends
