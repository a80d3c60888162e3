use Rattle.frames_hash.proofs.Hashing.{telling}
use Rattle.frames_hash.proofs.hash.Goals as goal

pub loop-z-init : goal.loop-z-init
loop-z-init c = search telling

pub loop-z-preserved : goal.loop-z-preserved
loop-z-preserved c = search telling

pub returns : goal.returns
returns c = search telling
