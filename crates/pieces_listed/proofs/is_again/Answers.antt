use Rattle.pieces_listed.proofs.Seeking.{again_loop}
use Rattle.pieces_listed.proofs.is_again.Goals as goal

pub returns-then-a-place : goal.returns-then-a-place
returns-then-a-place c = search again_loop

pub loop-a-preserved : goal.loop-a-preserved
loop-a-preserved c = search again_loop
