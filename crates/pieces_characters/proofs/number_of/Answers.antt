use Rattle.pieces_characters.proofs.Numbering.{count_loop}
use Rattle.pieces_characters.proofs.number_of.Goals as goal

pub loop-b-preserved : goal.loop-b-preserved
loop-b-preserved c = search count_loop

pub returns : goal.returns
returns c = search count_loop
