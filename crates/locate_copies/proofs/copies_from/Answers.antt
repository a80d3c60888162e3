use Rattle.locate_copies.proofs.Dividing.{copies_behind}
use Rattle.locate_copies.proofs.copies_from.Goals as goal

pub nonzero_div-result : goal.nonzero_div-result
nonzero_div-result c = search copies_behind

pub overflow_sub-result : goal.overflow_sub-result
overflow_sub-result c = search copies_behind

pub returns : goal.returns
returns c = search copies_behind
