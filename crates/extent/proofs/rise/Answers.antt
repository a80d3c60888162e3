use Rattle.extent.proofs.Signed.{rises_not, rises}
use Rattle.extent.proofs.rise.Goals as goal

pub returns-then-z-lt0 : goal.returns-then-z-lt0
returns-then-z-lt0 c = rises_not c.args.z c.ranges.z c.if-z-lt0.true

pub returns-else-z-lt0 : goal.returns-else-z-lt0
returns-else-z-lt0 c = rises c.args.z c.ranges.z c.if-z-lt0.false
