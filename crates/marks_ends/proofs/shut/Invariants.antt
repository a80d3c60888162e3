use Rattle.marks_ends.proofs.Shutting.{Shutting}
use Prim.Native.Nat.{◌-◌}
use Rattle.marks_ends.proofs.shut.Given as goal

abbrev pub invariant-loop-i : goal.invariant-loop-i
invariant-loop-i l = Shutting l.s l.from l.to l.at l.i

abbrev pub decreases-loop-i : goal.decreases-loop-i
decreases-loop-i l = l.n - l.i
