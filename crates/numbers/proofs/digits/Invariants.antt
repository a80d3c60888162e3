use Rattle.numbers.proofs.Reading.{Read}
use Rattle.numbers.proofs.digits.Given as goal

abbrev pub invariant-loop-i : goal.invariant-loop-i
invariant-loop-i l = Read l.s l.i l.n
