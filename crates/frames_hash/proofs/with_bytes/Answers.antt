use Rattle.frames_hash.proofs.Hashing.{summing}
use Rattle.frames_hash.proofs.with_bytes.Goals as goal

pub loop-b-init : goal.loop-b-init
loop-b-init c = search summing

pub loop-b-preserved : goal.loop-b-preserved
loop-b-preserved c = search summing

pub returns : goal.returns
returns c = search summing
