use Rattle.backups_parts.proofs.Copying.{Copied}
use Rattle.backups_parts.proofs.copy.Given as goal

abbrev pub invariant-loop-i : goal.invariant-loop-i
invariant-loop-i l = Copied l.bytes l.part l.i
