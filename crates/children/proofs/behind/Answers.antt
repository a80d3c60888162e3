use Rattle.std.proofs.Common.{refl}
use Rattle.children.proofs.Turning.{sought, seek_on, seek_in, seek_out, seek_end, walk_here, walk_stands, walk_on, walk_out}
use Rattle.children.proofs.behind.Goals as goal

pub loop-piece-preserved-in-Opens : goal.loop-piece-preserved-in-Opens
loop-piece-preserved-in-Opens c =
    let w = c.loop-piece.invariant in
    let g = c.in-Some.ensures.steps in
    walk_on w g (seek_in (walk_here w g) (walk_stands w g) c.in-Opens.ensures refl)

pub returns-in-Closes : goal.returns-in-Closes
returns-in-Closes c =
    let w = c.loop-piece.invariant in
    let g = c.in-Some.ensures.steps in
    seek_end (walk_here w g) (walk_stands w g) c.in-Closes.ensures refl c.if-depth-eq0.true

pub loop-piece-preserved-in-Closes-2 : goal.loop-piece-preserved-in-Closes-2
loop-piece-preserved-in-Closes-2 c =
    let w = c.loop-piece.invariant in
    let g = c.in-Some.ensures.steps in
    walk_on w g (seek_out (walk_here w g) (walk_stands w g) c.in-Closes-2.ensures refl c.if-depth-eq0.false)

pub loop-piece-preserved : goal.loop-piece-preserved
loop-piece-preserved c =
    let w = c.loop-piece.invariant in
    let g = c.in-Some.ensures.steps in
    walk_on w g (seek_on (walk_here w g) (walk_stands w g) c.in-Stays.ensures refl)

pub returns : goal.returns
returns c = sought c.loop-piece.invariant.is (walk_out c.loop-piece.invariant c.in-None.ensures.steps)
