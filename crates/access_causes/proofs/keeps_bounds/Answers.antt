use Rattle.access_kinds.proofs.Deciding.{bounding}
use Rattle.access_causes.proofs.keeps_bounds.Goals as goal

pub is_in_bounds-requires : goal.is_in_bounds-requires
is_in_bounds-requires c = search bounding

pub returns-in-Number : goal.returns-in-Number
returns-in-Number c = search bounding

pub returns-in-Number-2 : goal.returns-in-Number-2
returns-in-Number-2 c = search bounding

pub returns-in-Number-2-2 : goal.returns-in-Number-2-2
returns-in-Number-2-2 c = search bounding
