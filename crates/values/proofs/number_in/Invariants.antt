use Rattle.values.proofs.Numbering.{Read}
use Rattle.values.proofs.number_in.Given as goal

abbrev pub invariant-loop-b : goal.invariant-loop-b
invariant-loop-b l = Read l.part l.number l.b-index
