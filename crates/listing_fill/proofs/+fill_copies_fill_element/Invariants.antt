use Rattle.std.proofs.Common.{◌+◌, ◌-◌, ◌*◌}
use Rattle.listing_fill.proofs.Going.{FilledTo}
use Rattle.listing_fill.proofs.+fill_copies_fill_element.Given as goal

abbrev pub decreases-fill_copies : goal.decreases-fill_copies
decreases-fill_copies l = 2 * (l.end - l.from) + 1

abbrev pub decreases-fill_element : goal.decreases-fill_element
decreases-fill_element l = 2 * (l.end - l.i)

abbrev pub invariant-fill_copies-loop-again : goal.invariant-fill_copies-loop-again
invariant-fill_copies-loop-again l =
    FilledTo l.table l.space l.from l.end l.origin l.copies l.skip l.room l.filled l.initial.out l.i l.address l.again l.left l.k l.out

abbrev pub decreases-fill_copies-loop-again : goal.decreases-fill_copies-loop-again
decreases-fill_copies-loop-again l = l.again * (l.end - l.from + 1) + (l.end - l.i)
