use Rattle.settings.proofs.Limiting.{limiting}
use Rattle.settings.proofs.child_number.Goals as goal

pub returns : goal.returns
returns c = search limiting
