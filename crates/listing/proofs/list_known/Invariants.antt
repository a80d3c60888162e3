use Prim.Native.Nat.{◌-◌}
use Rattle.listing.proofs.Listed.{ListedTo}
use Rattle.listing.proofs.list_known.Given as goal

abbrev pub invariant-loop-i : goal.invariant-loop-i
invariant-loop-i l = ListedTo l.table l.n l.initial.out l.records l.room l.i l.left l.k l.out

abbrev pub decreases-loop-i : goal.decreases-loop-i
decreases-loop-i l = l.records - l.i
