use Rattle.settings_bounds.proofs.Bounding.{signing}
use Rattle.settings_bounds.proofs.is_signed.Goals as goal

pub returns : goal.returns
returns c = search signing
