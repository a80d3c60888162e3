use Rattle.std.proofs.Common.{◌-◌, length}
use Rattle.cdi.specs.Lists.{any}
use Rattle.cdi.specs.Pieces.{bears}
use Rattle.pieces_attributes.proofs.Walking.{Walking}
use Rattle.pieces_attributes.proofs.is_named.Given as goal

abbrev pub invariant-loop-a : goal.invariant-loop-a
invariant-loop-a l = Walking (any (bears l.name)) l.s l.at l.i

abbrev pub decreases-loop-a : goal.decreases-loop-a
decreases-loop-a l = length l.s - l.i
