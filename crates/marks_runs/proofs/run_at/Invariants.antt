use Rattle.marks_runs.proofs.Running.{Knows}
use Rattle.marks_runs.proofs.run_at.Given as goal

abbrev pub invariant-loop-i : goal.invariant-loop-i
invariant-loop-i l = Knows l.s l.at l.solid l.i
