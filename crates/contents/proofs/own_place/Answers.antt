use Rattle.std.proofs.Common.{refl, rules}
use Rattle.children.proofs.Turning.{walk_here, walk_stands, walk_on, walk_out}
use Rattle.contents.proofs.Owning.{own_out, same_on, own_other, own_run, own_more, run_deep, run_high}
use Rattle.contents.proofs.own_place.Goals as goal

pub is_end-requires : goal.is_end-requires
is_end-requires c =
    let w = c.loop-from.invariant in
    let g = c.in-Some.ensures.steps in
    let v = walk_stands w g in
    let high = run_high (walk_here w g) v c.in-Run.ensures in
    let deep = run_deep (walk_here w g) v c.in-Run.ensures refl in
    search rules

pub returns-then-is_end : goal.returns-then-is_end
returns-then-is_end c =
    let w = c.loop-from.invariant in
    let g = c.in-Some.ensures.steps in
    own_run (walk_here w g) (walk_stands w g) c.in-Run.ensures refl c.is_end.ensures c.if-is_end.true

pub returns-in-Run : goal.returns-in-Run
returns-in-Run c =
    let w = c.loop-from.invariant in
    let g = c.in-Some.ensures.steps in
    own_more (walk_here w g) (walk_stands w g) c.in-Run.ensures refl c.is_end.ensures c.if-is_end.false

pub loop-from-preserved : goal.loop-from-preserved
loop-from-preserved c =
    let w = c.loop-from.invariant in
    let g = c.in-Some.ensures.steps in
    walk_on w g (same_on (walk_here w g) (walk_stands w g) c.in-Nothing.ensures refl)

pub returns-in_default : goal.returns-in_default
returns-in_default c =
    let w = c.loop-from.invariant in
    let g = c.in-Some.ensures.steps in
    own_other (walk_here w g) (walk_stands w g) c.role_of.ensures c.in_default.not-Run c.in_default.not-Nothing

pub returns : goal.returns
returns c = own_out c.loop-from.invariant.is (walk_out c.loop-from.invariant c.in-None.ensures.steps)
