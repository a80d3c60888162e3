use Rattle.frames.proofs.Kept.{room}
use Rattle.frames.proofs.read_part.Goals as goal

pub slice_bounds-read_bytes-end-2 : goal.slice_bounds-read_bytes-end-2
slice_bounds-read_bytes-end-2 c = search room
