use Rattle.std.proofs.Common.{◌-◌, length}
use Rattle.pieces_attributes.proofs.Walking.{Closing}
use Rattle.pieces_tags.proofs.attributes_end.Given as goal

abbrev pub invariant-loop-a : goal.invariant-loop-a
invariant-loop-a l = Closing l.s l.at l.i

abbrev pub decreases-loop-a : goal.decreases-loop-a
decreases-loop-a l = length l.s - l.i
