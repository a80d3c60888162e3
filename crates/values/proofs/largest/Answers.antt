use Rattle.values.proofs.Complements.{most_of}
use Rattle.values.proofs.largest.Goals as goal

pub with_byte-most-requires : goal.with_byte-most-requires
with_byte-most-requires c = search most_of
