use Rattle.access_kinds.proofs.Deciding.{some_zero}
use Rattle.access_kinds.proofs.has_zero.Goals as goal

pub returns : goal.returns
returns c = some_zero c.args.s.now c.contains.ensures.value
