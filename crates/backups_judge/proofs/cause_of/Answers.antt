use Rattle.backups_judge.proofs.Judging.{causes}
use Rattle.backups_judge.proofs.cause_of.Goals as goal

pub returns-then-not-is_checked : goal.returns-then-not-is_checked
returns-then-not-is_checked c = search causes

pub returns-then-not-is_good : goal.returns-then-not-is_good
returns-then-not-is_good c = search causes

pub returns : goal.returns
returns c = search causes
