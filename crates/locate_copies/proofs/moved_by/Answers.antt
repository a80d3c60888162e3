use Rattle.locate_copies.proofs.Dividing.{moving}
use Rattle.locate_copies.proofs.moved_by.Goals as goal

pub overflow_add-result : goal.overflow_add-result
overflow_add-result c = search moving

pub overflow_cast-result-2 : goal.overflow_cast-result-2
overflow_cast-result-2 c = search moving

pub returns : goal.returns
returns c = search moving
