use Rattle.pieces_listed.proofs.Filling.{fill_loop}
use Rattle.pieces_listed.proofs.fill.Goals as goal

pub returns-in_default : goal.returns-in_default
returns-in_default c = search fill_loop

pub returns-after-loop-n : goal.returns-after-loop-n
returns-after-loop-n c = search fill_loop

pub returns-then-not-is_number : goal.returns-then-not-is_number
returns-then-not-is_number c = search fill_loop

pub loop-n-init : goal.loop-n-init
loop-n-init c = search fill_loop

pub loop-n-preserved : goal.loop-n-preserved
loop-n-preserved c = search fill_loop
