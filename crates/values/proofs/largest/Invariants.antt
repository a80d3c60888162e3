use Rattle.values.proofs.Complements.{Largest}
use Rattle.values.proofs.largest.Given as goal

abbrev pub invariant-loop : goal.invariant-loop
invariant-loop l = Largest l.size l.most l.counter
