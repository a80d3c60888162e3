use Rattle.settings_bounds.proofs.Bounding.{bounding}
use Rattle.settings_bounds.proofs.largest_of.Goals as goal

pub returns : goal.returns
returns c = search bounding
