use Rattle.access_kinds.proofs.Deciding.{deciding}
use Rattle.access_causes.proofs.write_cause.Goals as goal

pub returns : goal.returns
returns c = search deciding
