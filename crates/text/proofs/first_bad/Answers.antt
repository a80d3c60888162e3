use Rattle.text.proofs.Checks.{character_loop, out, run_on}
use native.Mathlib.Omega.{arith}
use Rattle.text.proofs.first_bad.Goals as goal

pub loop-i-init : goal.loop-i-init
loop-i-init c = search character_loop

pub loop-i-preserved-then-starts_run : goal.loop-i-preserved-then-starts_run
loop-i-preserved-then-starts_run c = search (run_on, c.loop-i, c.plain_run-i, arith)

pub returns-in_default : goal.returns-in_default
returns-in_default c = search character_loop

pub loop-i-preserved : goal.loop-i-preserved
loop-i-preserved c = search character_loop

pub returns : goal.returns
returns c = search (out)
