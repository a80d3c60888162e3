use Rattle.locate.proofs.Segments.{answering}
use Rattle.locate.proofs.locate.Goals as goal

pub find-requires : goal.find-requires
find-requires c = search answering

pub returns-then-not-is_plan : goal.returns-then-not-is_plan
returns-then-not-is_plan c = search answering

pub returns : goal.returns
returns c = search answering
