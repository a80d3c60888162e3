use Rattle.locate_copies.proofs.Dividing.{copying}
use Rattle.locate_copies.proofs.each.Goals as goal

pub natural_at-replication-requires : goal.natural_at-replication-requires
natural_at-replication-requires c = search copying

pub returns : goal.returns
returns c = search copying
