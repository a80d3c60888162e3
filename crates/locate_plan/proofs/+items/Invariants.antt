use Rattle.std.proofs.Common.{◌-◌}
use Rattle.locate_plan.proofs.Testing.{TestedTo}
use Rattle.locate_plan.proofs.+items.Given as goal

abbrev pub decreases-items : goal.decreases-items
decreases-items l = l.end - l.from

abbrev pub invariant-loop-i : goal.invariant-loop-i
invariant-loop-i l = TestedTo l.table l.depth l.from l.end l.i l.before

abbrev pub decreases-loop-i : goal.decreases-loop-i
decreases-loop-i l = l.end - l.i
