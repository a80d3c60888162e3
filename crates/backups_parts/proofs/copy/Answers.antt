use Rattle.backups_parts.proofs.Copying.{copies}
use Rattle.backups_parts.proofs.copy.Goals as goal

pub loop-i-init : goal.loop-i-init
loop-i-init c = search copies

pub bounds-bytes-i : goal.bounds-bytes-i
bounds-bytes-i c = search copies

pub loop-i-preserved : goal.loop-i-preserved
loop-i-preserved c = search copies

pub returns : goal.returns
returns c = search copies
