use Rattle.locate_ranges.proofs.InRange.{by_kind}
use Rattle.locate_ranges.proofs.replication_fits.Goals as goal

pub returns-then-rise_at-eq-GROUP : goal.returns-then-rise_at-eq-GROUP
returns-then-rise_at-eq-GROUP c = search by_kind

pub returns-else-rise_at-eq-GROUP : goal.returns-else-rise_at-eq-GROUP
returns-else-rise_at-eq-GROUP c = search by_kind
