use native.Mathlib.Omega.{arith}
use Rattle.list.proofs.Accepting.{has_room_law, plan_in_front}
use Rattle.list.proofs.answer.Goals as goal

pub overflow_mul-size : goal.overflow_mul-size
overflow_mul-size c = omega (arith, has_room_law _ _ c.plan.ensures.answer c.in-Ok.is)

pub slice_bounds-write_lines-end : goal.slice_bounds-write_lines-end
slice_bounds-write_lines-end c = omega (arith, has_room_law _ _ c.plan.ensures.answer c.in-Ok.is)

pub write_lines-requires : goal.write_lines-requires
write_lines-requires c = (plan_in_front _ _ c.plan.ensures.answer c.in-Ok.is _ c.plan.ensures.after, omega arith)
