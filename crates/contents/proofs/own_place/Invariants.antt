use Rattle.children.proofs.Turning.{Walking}
use Rattle.contents.proofs.Owning.{Same}
use Rattle.contents.proofs.own_place.Given as goal

abbrev pub invariant-loop-from : goal.invariant-loop-from
invariant-loop-from l = Walking l.s l.from-iterator (λ i. Same l.s l.at i)
