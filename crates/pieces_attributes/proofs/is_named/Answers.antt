use Rattle.pieces_attributes.proofs.Walking.{naming}
use Rattle.pieces_attributes.proofs.is_named.Goals as goal

pub returns-then-same : goal.returns-then-same
returns-then-same c = search naming

pub loop-a-preserved : goal.loop-a-preserved
loop-a-preserved c = search naming

pub returns : goal.returns
returns c = search naming
