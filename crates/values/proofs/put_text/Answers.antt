use Rattle.values.proofs.Letters.{padding}
use Rattle.values.proofs.put_text.Goals as goal

pub loop-i-init : goal.loop-i-init
loop-i-init c = search padding

pub loop-i-preserved : goal.loop-i-preserved
loop-i-preserved c = search padding

pub returns : goal.returns
returns c = search padding
