use Rattle.timed.proofs.Ended.{content_both}
use Rattle.timed.proofs.timed_content.Goals as goal

pub slice_bounds-bad_behind-end : goal.slice_bounds-bad_behind-end
slice_bounds-bad_behind-end c = search content_both

pub bad_behind-requires : goal.bad_behind-requires
bad_behind-requires c = search content_both

pub returns-in-Ok : goal.returns-in-Ok
returns-in-Ok c = search content_both

pub returns-in-Err : goal.returns-in-Err
returns-in-Err c = search content_both
