use Rattle.access_checked.proofs.Comparing.{checking, check_ended}
use Rattle.access_checked.proofs.check.Goals as goal

pub returns-in_err-end : goal.returns-in_err-end
returns-in_err-end c = search checking

pub slice_bounds-compare-end : goal.slice_bounds-compare-end
slice_bounds-compare-end c = search checking

pub compare-requires : goal.compare-requires
compare-requires c = search checking

pub returns : goal.returns
returns c = check_ended _ _ c.open_text.ensures.said c.open_text.ensures.ends c.in_ok-end.was _ c.compare.ensures
