use Rattle.std.proofs.Common.{arith, rules}
use Rattle.undo_entries.proofs.Along.{on}
use Rattle.undo_entries.proofs.beginning_of.Goals as goal

pub loop-preserved : goal.loop-preserved
loop-preserved c = on c.loop.invariant c.number_in-size.ensures.0 (search rules) (search rules)
