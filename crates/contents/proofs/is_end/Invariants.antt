use Rattle.children.proofs.Turning.{Walking}
use Rattle.contents.proofs.Owning.{Same}
use Rattle.contents.proofs.is_end.Given as goal

abbrev pub invariant-loop-piece : goal.invariant-loop-piece
invariant-loop-piece l = Walking l.s l.piece-iterator (λ i. Same l.s l.at i)
