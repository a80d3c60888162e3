use Rattle.children.proofs.Turning.{looked, look_start, look_finish, look_on, walk_here, walk_stands, walk_on, walk_out}
use Rattle.children.proofs.next_child.Goals as goal

pub returns-in-Start : goal.returns-in-Start
returns-in-Start c =
    let w = c.loop-piece.invariant in
    let g = c.in-Some.ensures.steps in
    look_start (walk_here w g) (walk_stands w g) c.in-Start.is

pub returns-in-Finish : goal.returns-in-Finish
returns-in-Finish c =
    let w = c.loop-piece.invariant in
    let g = c.in-Some.ensures.steps in
    look_finish (walk_here w g) (walk_stands w g) c.in-Finish.is

pub loop-piece-preserved : goal.loop-piece-preserved
loop-piece-preserved c =
    let w = c.loop-piece.invariant in
    let g = c.in-Some.ensures.steps in
    walk_on w g (look_on (walk_here w g) (walk_stands w g) c.in_default.not-Start c.in_default.not-Finish)

pub returns : goal.returns
returns c = looked c.loop-piece.invariant.is (walk_out c.loop-piece.invariant c.in-None.ensures.steps)
