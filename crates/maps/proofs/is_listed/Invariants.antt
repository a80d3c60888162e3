use Rattle.maps.proofs.Matching.{Listing}
use Prim.Native.Nat.{◌-◌}
use lib.ListN.{length}
use Rattle.cdi.specs.Access.{equals}
use Rattle.maps.specs.Matches.{wanted_of}
use Rattle.maps.proofs.is_listed.Given as goal

abbrev pub invariant-loop-child : goal.invariant-loop-child
invariant-loop-child l = Listing l.s l.at (equals (wanted_of l.wanted l.text)) l.i

abbrev pub decreases-loop-child : goal.decreases-loop-child
decreases-loop-child l = length l.s - l.i
