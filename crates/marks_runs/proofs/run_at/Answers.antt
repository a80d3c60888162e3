use Rattle.marks_runs.proofs.Running.{run_loop}
use Rattle.marks_runs.proofs.run_at.Goals as goal
use Rattle.marks_runs.proofs.run_at.Goals.{then-not-is_plain+else-s-i-ne62+else-is_bracketed, else-not-is_plain}

pub loop-i-init : goal.loop-i-init
loop-i-init c = search run_loop

pub returns-then-s-i-ne62-clause-runs : goal.returns-then-s-i-ne62-clause-runs
returns-then-s-i-ne62-clause-runs c = search run_loop

pub returns-then-is_bracketed-clause-runs : goal.returns-then-is_bracketed-clause-runs
returns-then-is_bracketed-clause-runs c = search run_loop

pub loop-i-preserved : goal.loop-i-preserved
loop-i-preserved c =
    elim c.if-not-is_plain.branch [
      | then-not-is_plain+else-s-i-ne62+else-is_bracketed w ↦ search run_loop
      | else-not-is_plain w ↦ search run_loop
    ]

pub returns-clause-runs : goal.returns-clause-runs
returns-clause-runs c = search run_loop
