use Rattle.pieces_cuts.proofs.Finding.{find_loop}
use Rattle.pieces_marks.proofs.find.Goals as goal

pub returns-then-s-i : goal.returns-then-s-i
returns-then-s-i c = search find_loop

pub returns-then-begins_at : goal.returns-then-begins_at
returns-then-begins_at c = search find_loop

pub loop-i-preserved : goal.loop-i-preserved
loop-i-preserved c = search find_loop

pub returns : goal.returns
returns c = search find_loop
