use Rattle.std.proofs.Common.{◌≡◌, ◌+◌, true}
use Rattle.text_runs.specs.Runs.{AllOf}
use Rattle.text_runs.proofs.all_of_eight.Given as goal

abbrev pub invariant-loop-n : goal.invariant-loop-n
invariant-loop-n g l = l.good ≡ true → AllOf g.T.Test.passing l.s l.at (l.at + l.n)
