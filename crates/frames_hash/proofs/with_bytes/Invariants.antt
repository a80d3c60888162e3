use Rattle.frames_hash.proofs.Hashing.{Summed}
use Rattle.frames_hash.proofs.with_bytes.Given as goal

abbrev pub invariant-loop-b : goal.invariant-loop-b
invariant-loop-b l = Summed l.h l.bytes l.sum l.b-index
