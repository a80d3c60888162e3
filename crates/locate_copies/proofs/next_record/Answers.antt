use Rattle.locate_rows.proofs.Numbers.{raising}
use Rattle.locate_copies.proofs.next_record.Goals as goal

pub natural_at-requires : goal.natural_at-requires
natural_at-requires c = search raising
