use Rattle.text.proofs.Ends.{zero_loop}
use Rattle.text.proofs.zero_behind.Goals as goal

pub loop-i-init : goal.loop-i-init
loop-i-init c = search zero_loop

pub returns-then-part-i-eq0 : goal.returns-then-part-i-eq0
returns-then-part-i-eq0 c = search zero_loop

pub loop-i-preserved : goal.loop-i-preserved
loop-i-preserved c = search zero_loop

pub returns : goal.returns
returns c = search zero_loop
