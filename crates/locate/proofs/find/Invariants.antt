use Prim.Native.Nat.{◌-◌}
use Rattle.locate.proofs.Segments.{Passing}
use Rattle.locate.proofs.find.Given as goal

abbrev pub invariant-loop-i : goal.invariant-loop-i
invariant-loop-i l = Passing l.table l.n l.records l.i l.left

abbrev pub decreases-loop-i : goal.decreases-loop-i
decreases-loop-i l = l.records - l.i
