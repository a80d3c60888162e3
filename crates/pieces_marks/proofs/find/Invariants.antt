use Rattle.pieces_cuts.proofs.Finding.{Seeking}
use Rattle.pieces_marks.proofs.find.Given as goal

abbrev pub invariant-loop-i : goal.invariant-loop-i
invariant-loop-i l = Seeking l.word l.s l.at l.i
