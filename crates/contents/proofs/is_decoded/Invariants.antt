use Prim.Native.Nat.{◌-◌}
use lib.ListN.{length}
use Rattle.children.proofs.Turning.{Walking}
use Rattle.contents.proofs.Decoding.{Decoding}
use Rattle.contents.proofs.is_decoded.Given as goal

abbrev pub invariant-loop-piece : goal.invariant-loop-piece
invariant-loop-piece l = Walking l.s l.pieces (λ i. Decoding l.s l.at l.text i l.k)

abbrev pub decreases-loop-piece : goal.decreases-loop-piece
decreases-loop-piece l = length l.s - l.pieces.at
