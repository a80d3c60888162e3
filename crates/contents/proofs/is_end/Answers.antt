use Rattle.std.proofs.Common.{refl}
use Rattle.children.proofs.Turning.{walk_here, walk_stands, walk_on, walk_out}
use Rattle.contents.proofs.Owning.{end_out, same_on, end_end, end_more}
use Rattle.contents.proofs.is_end.Goals as goal

pub returns-in-End : goal.returns-in-End
returns-in-End c =
    let w = c.loop-piece.invariant in
    let g = c.in-Some.ensures.steps in
    end_end (walk_here w g) (walk_stands w g) c.in-End.ensures refl

pub loop-piece-preserved : goal.loop-piece-preserved
loop-piece-preserved c =
    let w = c.loop-piece.invariant in
    let g = c.in-Some.ensures.steps in
    walk_on w g (same_on (walk_here w g) (walk_stands w g) c.in-Nothing.ensures refl)

pub returns-in_default : goal.returns-in_default
returns-in_default c =
    let w = c.loop-piece.invariant in
    let g = c.in-Some.ensures.steps in
    end_more (walk_here w g) (walk_stands w g) c.role_of.ensures c.in_default.not-End c.in_default.not-Nothing

pub returns : goal.returns
returns c = end_out c.loop-piece.invariant.is (walk_out c.loop-piece.invariant c.in-None.ensures.steps)
