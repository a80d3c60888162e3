use Rattle.std.proofs.Common.{◌+◌, ◌-◌, ◌*◌, length}
use Rattle.parse_state.specs.States.{state_of}
use Rattle.parse_elements.proofs.Contents.{Going}
use Rattle.parse_elements.proofs.+content_element.Given as goal

abbrev pub decreases-content : goal.decreases-content
decreases-content l = 2 * l.left + 1

abbrev pub decreases-element : goal.decreases-element
decreases-element l = 2 * l.left

abbrev pub invariant-content-loop-i : goal.invariant-content-loop-i
invariant-content-loop-i l = Going l.s l.left l.at l.begun (state_of l.initial.sum) l.initial.rows l.i l.b l.sum l.rows

abbrev pub decreases-content-loop-i : goal.decreases-content-loop-i
decreases-content-loop-i l = length l.s - l.i
