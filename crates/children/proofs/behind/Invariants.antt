use Rattle.children.proofs.Turning.{Seeks, Walking}
use Rattle.children.proofs.behind.Given as goal

abbrev pub invariant-loop-piece : goal.invariant-loop-piece
invariant-loop-piece l = Walking l.s l.piece-iterator (λ i. Seeks l.s l.at i l.depth)
