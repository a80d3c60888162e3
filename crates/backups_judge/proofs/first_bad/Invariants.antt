use Rattle.backups_judge.proofs.Judging.{Passing}
use Rattle.backups_judge.proofs.first_bad.Given as goal

abbrev pub invariant-loop-k : goal.invariant-loop-k
invariant-loop-k l = Passing l.b l.blocks l.space l.k
