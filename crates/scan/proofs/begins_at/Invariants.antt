use Rattle.scan.proofs.Words.{Agrees}
use Rattle.scan.proofs.begins_at.Given as goal

abbrev pub invariant-loop-i : goal.invariant-loop-i
invariant-loop-i l = Agrees l.s l.at l.word l.i
