use Rattle.std.proofs.Common.{◌-◌}
use Rattle.locate_ways.proofs.Ways.{Seeking}
use Rattle.locate_ways.proofs.+find_in.Given as goal

abbrev pub decreases-find_in : goal.decreases-find_in
decreases-find_in l = l.end - l.from

abbrev pub invariant-loop-i : goal.invariant-loop-i
invariant-loop-i l = Seeking l.table l.from l.end l.origin l.n l.i l.address l.left

abbrev pub decreases-loop-i : goal.decreases-loop-i
decreases-loop-i l = l.end - l.i
