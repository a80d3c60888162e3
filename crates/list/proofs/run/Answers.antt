use native.Mathlib.Omega.{arith}
use lib.ListN.{length-take}
use Rattle.list.proofs.Reading.{in_slice}
use Rattle.list.proofs.run.Goals as goal

pub slice_bounds-answer-end : goal.slice_bounds-answer-end
slice_bounds-answer-end c = omega (arith, in_slice _ _ c.read_text.ensures c.in-Some.is)

pub slice_bounds-answer-end-2 : goal.slice_bounds-answer-end-2
slice_bounds-answer-end-2 c = omega (arith, in_slice _ _ c.read_text.ensures c.in-Some.is, length-take c.in-Some.size c.read_text.new.text)
