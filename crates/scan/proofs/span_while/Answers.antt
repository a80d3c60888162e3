use Rattle.scan.proofs.Spans.{start, out_whole, stops, goes}
use Rattle.scan.proofs.span_while.Goals as goal

pub loop-i-init : goal.loop-i-init
loop-i-init g c = λ p t. start p _ _ c.requires.at

pub returns-then-not-passes : goal.returns-then-not-passes
returns-then-not-passes g c = λ p t. stops (c.loop-i.invariant p t) c.loop-i-test.true (t _ _ c.passes.ensures) c.if-not-passes.true

pub loop-i-preserved : goal.loop-i-preserved
loop-i-preserved g c = λ p t. goes (c.loop-i.invariant p t) c.loop-i-test.true (t _ _ c.passes.ensures) c.if-not-passes.false

pub returns : goal.returns
returns g c = λ p t. out_whole (c.loop-i.invariant p t) c.loop-i-test.false
