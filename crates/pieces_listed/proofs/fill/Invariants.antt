use Rattle.pieces_listed.proofs.Filling.{Filling}
use Rattle.pieces_listed.proofs.fill.Given as goal

abbrev pub invariant-loop-n : goal.invariant-loop-n
invariant-loop-n l = Filling l.s l.at l.names l.n l.i
