use Rattle.std.proofs.Common.{◌-◌, length}
use Rattle.tags_wrong.proofs.Finding.{Seeking}
use Rattle.tags_wrong.proofs.first_wrong.Given as goal

abbrev pub invariant-loop-a : goal.invariant-loop-a
invariant-loop-a l = Seeking l.s l.at l.element l.set l.codes l.i

abbrev pub decreases-loop-a : goal.decreases-loop-a
decreases-loop-a l = length l.s - l.i
