use Rattle.std.proofs.Common.{◌-◌, length}
use Rattle.cdi.specs.Markup.{refers}
use Rattle.pieces_attributes.proofs.Walking.{Walking}
use Rattle.pieces_attributes.proofs.has_reference.Given as goal

abbrev pub invariant-loop-a : goal.invariant-loop-a
invariant-loop-a l = Walking refers l.s l.at l.i

abbrev pub decreases-loop-a : goal.decreases-loop-a
decreases-loop-a l = length l.s - l.i
