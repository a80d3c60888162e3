use Rattle.judges_content.proofs.Between.{between}
use Rattle.judges_content.proofs.with_run.Goals as goal

pub returns-clause-result_value : goal.returns-clause-result_value
returns-clause-result_value c = search between
