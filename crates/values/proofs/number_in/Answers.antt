use Rattle.values.proofs.Numbering.{reading}
use Rattle.values.proofs.number_in.Goals as goal

pub loop-b-init : goal.loop-b-init
loop-b-init c = search reading

pub loop-b-preserved : goal.loop-b-preserved
loop-b-preserved c = search reading

pub returns : goal.returns
returns c = search reading
