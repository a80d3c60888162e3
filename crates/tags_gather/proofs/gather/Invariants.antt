use Rattle.tags_gather.proofs.Gathering.{Going}
use Prim.Native.Nat.{◌-◌}
use lib.ListN.{length}
use Rattle.tags_gather.proofs.gather.Given as goal

abbrev pub invariant-loop-i : goal.invariant-loop-i
invariant-loop-i l = Going l.element l.at l.s l.i l.codes l.amounts l.count l.exact l.refers l.known l.again l.strange

abbrev pub decreases-loop-i : goal.decreases-loop-i
decreases-loop-i l = length l.s - l.i
