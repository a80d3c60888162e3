use Rattle.std.proofs.Common.{◌≤◌, length, rules}
use borrow.Author.Tests.{le-leb}
use Rattle.plan_table.proofs.Placing.{planning, roomy}
use Rattle.plan.proofs.plan_in.Goals as goal

pub returns-then-has_room-clause-told : goal.returns-then-has_room-clause-told
returns-then-has_room-clause-told g c = (search planning, search planning)

pub returns-else-has_room-clause-room : goal.returns-else-has_room-clause-room
returns-else-has_room-clause-room g c h =
    let l : 32768 ≤ length c.outline.new.rows = search rules in
    let z = le-leb _ _ (roomy c.outline.ensures.few.0 c.in-Ok.is l) in
    cc

pub returns-in-Err-clause-told : goal.returns-in-Err-clause-told
returns-in-Err-clause-told g c = (search planning, search planning)
