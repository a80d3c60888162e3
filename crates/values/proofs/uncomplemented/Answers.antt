use Rattle.values.proofs.Complements.{uncomplementing}
use Rattle.values.proofs.uncomplemented.Goals as goal
use Rattle.values.proofs.uncomplemented.Goals.{else-signed-via-then-signed+else-most-number, else-signed-via-else-signed}

pub returns-then-most-number : goal.returns-then-most-number
returns-then-most-number c = search uncomplementing

pub returns-else-signed : goal.returns-else-signed
returns-else-signed c = elim c.else-signed.branch [ else-signed-via-then-signed+else-most-number w ↦ search uncomplementing | else-signed-via-else-signed w ↦ search uncomplementing ]
