use Rattle.text_runs.proofs.Running.{plain_above}
use Rattle.text_runs.proofs.starts_run.Goals as goal

pub returns-else-b-le127 : goal.returns-else-b-le127
returns-else-b-le127 c = plain_above _ c.if-b-le127.false
