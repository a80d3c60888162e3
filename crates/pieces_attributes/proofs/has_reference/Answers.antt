use Rattle.pieces_attributes.proofs.Walking.{referring}
use Rattle.pieces_attributes.proofs.has_reference.Goals as goal

pub returns-then-holds : goal.returns-then-holds
returns-then-holds c = search referring

pub loop-a-preserved : goal.loop-a-preserved
loop-a-preserved c = search referring

pub returns : goal.returns
returns c = search referring
