use Rattle.answers_access.proofs.Within.{within}
use Rattle.answers_access.proofs.reads.reading.Goals as goal

pub slice_bounds-spell-count : goal.slice_bounds-spell-count
slice_bounds-spell-count c = search within

pub slice_bounds-spell-start : goal.slice_bounds-spell-start
slice_bounds-spell-start c = search within

pub slice_bounds-spell-end : goal.slice_bounds-spell-end
slice_bounds-spell-end c = search within
