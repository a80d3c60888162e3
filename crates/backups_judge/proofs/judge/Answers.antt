use Rattle.backups_judge.proofs.Judging.{judgings}
use Rattle.backups_judge.proofs.judge.Goals as goal

pub returns-then-b-ne512 : goal.returns-then-b-ne512
returns-then-b-ne512 c = search judgings

pub returns : goal.returns
returns c = search judgings
