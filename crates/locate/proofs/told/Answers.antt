use Rattle.locate.proofs.Segments.{standing_for}
use Rattle.locate.proofs.told.Goals as goal

pub returns-then-found-eq-NOWHERE : goal.returns-then-found-eq-NOWHERE
returns-then-found-eq-NOWHERE c = search standing_for

pub returns : goal.returns
returns c = search standing_for
