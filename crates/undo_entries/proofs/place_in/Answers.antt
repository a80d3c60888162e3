use Rattle.undo_entries.proofs.Placing.{inside_room}
use Rattle.undo_entries.proofs.place_in.Goals as goal

pub overflow_sub-left : goal.overflow_sub-left
overflow_sub-left c = inside_room c.args.room.now c.args.session c.args.size c.beginning_of.ensures c.in_ok-at.was
