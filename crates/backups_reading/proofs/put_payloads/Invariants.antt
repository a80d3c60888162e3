use Rattle.backups_reading.proofs.Restoring.{Returned}
use Rattle.backups_reading.proofs.put_payloads.Given as goal

abbrev pub invariant-loop-k : goal.invariant-loop-k
invariant-loop-k l = Returned l.blocks l.space l.b l.out l.k
