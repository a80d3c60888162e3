use Rattle.text_runs.proofs.Running.{one_tested, all_eight, step_loop}
use Rattle.text_runs.proofs.all_of_eight.Goals as goal

pub loop-n-init : goal.loop-n-init
loop-n-init g c = search step_loop

pub loop-n-preserved : goal.loop-n-preserved
loop-n-preserved g c = one_tested _ _ c.loop-n.invariant c.passes-good.ensures

pub returns : goal.returns
returns g c = λ e. all_eight _ _ (c.loop-n.invariant e) c.loop-n-test.false
