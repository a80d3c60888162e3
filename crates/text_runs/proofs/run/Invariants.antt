use Rattle.std.proofs.Common.{◌≤◌, ◌+◌, ◌-◌, length}
use Rattle.text_runs.specs.Runs.{AllOf}
use Rattle.text_runs.proofs.run.Given as goal

abbrev pub invariant-loop-k : goal.invariant-loop-k
invariant-loop-k g l = AllOf g.T.Test.passing l.s l.at (l.i + l.k)

abbrev pub invariant-run : goal.invariant-run
invariant-run g l = (l.at ≤ l.i) × (l.i ≤ length l.s) × AllOf g.T.Test.passing l.s l.at l.i

abbrev pub decreases-run : goal.decreases-run
decreases-run g l = length l.s - l.i
