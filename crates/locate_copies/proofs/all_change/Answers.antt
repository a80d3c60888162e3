use Rattle.locate_copies.proofs.Dividing.{changing}
use Rattle.locate_copies.proofs.all_change.Goals as goal

pub overflow_sub-result : goal.overflow_sub-result
overflow_sub-result c = search changing

pub returns : goal.returns
returns c = search changing
