use Rattle.undo_entries.proofs.Placing.{last_inside}
use Rattle.undo_entries.proofs.last_in.Goals as goal

pub overflow_sub-left : goal.overflow_sub-left
overflow_sub-left c = last_inside c.args.room.now c.requires c.beginning_of.ensures c.in_ok-at.was
