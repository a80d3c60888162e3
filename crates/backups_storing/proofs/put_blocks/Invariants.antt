use Rattle.backups_storing.proofs.Filling.{Filled}
use Rattle.backups_storing.proofs.put_blocks.Given as goal

abbrev pub invariant-loop-k : goal.invariant-loop-k
invariant-loop-k l = Filled l.blocks l.space l.bytes l.out l.k
