use Rattle.children.proofs.Turning.{Looks, Walking}
use Rattle.children.proofs.next_child.Given as goal

abbrev pub invariant-loop-piece : goal.invariant-loop-piece
invariant-loop-piece l = Walking l.s l.piece-iterator (λ i. Looks l.s l.at i)
