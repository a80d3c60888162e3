use Rattle.std.proofs.Common.{rules, arith}
use Rattle.text_runs.proofs.Running.{nothing_yet, behind, one_more, all_eight, run_loop}
use Rattle.text_runs.proofs.run.Goals as goal
use Rattle.text_runs.proofs.run.Goals.{then-not-all_of_eight+else-loop-k-test, else-not-all_of_eight}

pub run-init : goal.run-init
run-init g c = (omega arith, c.requires, nothing_yet _)

pub returns-then-s-i-lt-STEP : goal.returns-then-s-i-lt-STEP
returns-then-s-i-lt-STEP g c = search rules

pub returns-then-not-passes : goal.returns-then-not-passes
returns-then-not-passes g c = search rules

pub loop-k-init : goal.loop-k-init
loop-k-init g c = search run_loop

pub loop-k-preserved : goal.loop-k-preserved
loop-k-preserved g c = one_more _ _ c.loop-k.invariant c.passes.ensures c.if-not-passes.false

pub run-preserved : goal.run-preserved
run-preserved g c =
    elim c.if-not-all_of_eight.branch [
      | then-not-all_of_eight+else-loop-k-test w ↦ (omega arith, omega arith, all_eight _ _ w.loop-k.invariant w.loop-k-test.false)
      | else-not-all_of_eight w ↦ (omega arith, omega arith, behind c.run.invariant.2 (c.all_of_eight.ensures w.if-not-all_of_eight.false))
    ]
