use Rattle.judges_leave.proofs.Leaving.{leaving}
use Rattle.judges_leave.proofs.leave.Goals as goal

pub returns-then-entry-eq0-clause-result_value : goal.returns-then-entry-eq0-clause-result_value
returns-then-entry-eq0-clause-result_value c = search leaving

pub returns-clause-result_value : goal.returns-clause-result_value
returns-clause-result_value c = search leaving
