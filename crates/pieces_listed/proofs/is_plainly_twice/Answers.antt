use Rattle.pieces_attributes.proofs.Walking.{doubling}
use Rattle.pieces_listed.proofs.is_plainly_twice.Goals as goal

pub returns-then-is_named : goal.returns-then-is_named
returns-then-is_named c = search doubling

pub loop-a-preserved : goal.loop-a-preserved
loop-a-preserved c = search doubling

pub returns : goal.returns
returns c = search doubling
