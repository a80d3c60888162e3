use Prim.Native.Nat.{◌-◌}
use Rattle.locate_plan.proofs.Tops.{CountedTo}
use Rattle.locate_plan.proofs.segments.Given as goal

abbrev pub invariant-loop-i : goal.invariant-loop-i
invariant-loop-i l = CountedTo l.table l.end l.i l.count

abbrev pub decreases-loop-i : goal.decreases-loop-i
decreases-loop-i l = l.end - l.i
