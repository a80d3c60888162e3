use Rattle.extent.proofs.Signed.{falls, falls_not}
use Rattle.extent.proofs.fall.Goals as goal

pub returns-then-z-lt0 : goal.returns-then-z-lt0
returns-then-z-lt0 c = (falls c.args.z c.ranges.z c.if-z-lt0.true c.unsigned_abs.ensures.value, c.unsigned_abs.ensures.bound)

pub returns-else-z-lt0 : goal.returns-else-z-lt0
returns-else-z-lt0 c = falls_not c.args.z c.ranges.z c.if-z-lt0.false
