use Rattle.frames_hash.proofs.Hashing.{Told}
use Rattle.frames_hash.proofs.hash.Given as goal

abbrev pub invariant-loop-z : goal.invariant-loop-z
invariant-loop-z l = Told l.table l.sum l.z-index
