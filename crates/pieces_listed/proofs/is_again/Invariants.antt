use Rattle.std.proofs.Common.{◌-◌, length}
use Rattle.pieces_listed.proofs.Seeking.{Seeking}
use Rattle.pieces_listed.proofs.is_again.Given as goal

abbrev pub invariant-loop-a : goal.invariant-loop-a
invariant-loop-a l = Seeking l.s l.at l.i

abbrev pub decreases-loop-a : goal.decreases-loop-a
decreases-loop-a l = length l.s - l.i
