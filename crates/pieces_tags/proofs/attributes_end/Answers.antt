use Rattle.pieces_attributes.proofs.Walking.{close_loop, closed}
use Rattle.pieces_tags.proofs.attributes_end.Goals as goal

pub loop-a-preserved : goal.loop-a-preserved
loop-a-preserved c = search close_loop

pub returns : goal.returns
returns c = closed c.loop-a.invariant c.in_default.ensures
