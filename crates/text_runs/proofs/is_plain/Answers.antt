use Rattle.text_runs.proofs.Running.{plain_test}
use Rattle.text_runs.proofs.is_plain.Goals as goal

pub returns : goal.returns
returns c = search plain_test
