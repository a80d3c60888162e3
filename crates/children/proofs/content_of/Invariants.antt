use Prim.Native.Nat.{◌-◌}
use lib.ListN.{length}
use Rattle.children.proofs.Turning.{Asking}
use Rattle.children.proofs.content_of.Given as goal

abbrev pub invariant-loop-child : goal.invariant-loop-child
invariant-loop-child l = Asking l.s l.at l.name l.i

abbrev pub decreases-loop-child : goal.decreases-loop-child
decreases-loop-child l = length l.s - l.i
