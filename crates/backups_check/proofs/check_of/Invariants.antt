use Rattle.backups_check.proofs.Summing.{Summing}
use Rattle.backups_check.proofs.check_of.Given as goal

abbrev pub invariant-loop-k : goal.invariant-loop-k
invariant-loop-k l = Summing l.front l.sum l.k
