use Rattle.locate_copies.proofs.Dividing.{copying}
use Rattle.locate_copies.proofs.copy_at.Goals as goal

pub natural_at-replication-requires : goal.natural_at-replication-requires
natural_at-replication-requires c = search copying

pub overflow_mul-result : goal.overflow_mul-result
overflow_mul-result c = search copying

pub overflow_add-result : goal.overflow_add-result
overflow_add-result c = search copying

pub overflow_mul-result-else-down-eq0 : goal.overflow_mul-result-else-down-eq0
overflow_mul-result-else-down-eq0 c = search copying

pub overflow_sub-result : goal.overflow_sub-result
overflow_sub-result c = search copying

pub returns-then-down-eq0 : goal.returns-then-down-eq0
returns-then-down-eq0 c = search copying

pub returns-else-down-eq0 : goal.returns-else-down-eq0
returns-else-down-eq0 c = search copying
