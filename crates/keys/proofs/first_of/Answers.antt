use Rattle.keys.proofs.Keying.{replaced, stays}
use Rattle.keys.proofs.first_of.Goals as goal

pub returns-then-key-least : goal.returns-then-key-least
returns-then-key-least c = replaced _ _ c.ranges.least c.if-key-least.true

pub returns : goal.returns
returns c = stays _ _ c.ranges.key c.if-key-least.false
