use Rattle.maps.proofs.Matching.{empties}
use Rattle.maps.proofs.is_empty.Goals as goal

pub returns-in-Text : goal.returns-in-Text
returns-in-Text c = search empties

pub returns-in_default : goal.returns-in_default
returns-in_default c = search empties
