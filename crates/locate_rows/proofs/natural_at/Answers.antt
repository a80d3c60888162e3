use Rattle.locate_rows.proofs.Numbers.{plainly}
use Rattle.locate_rows.proofs.natural_at.Goals as goal

pub overflow_cast-result : goal.overflow_cast-result
overflow_cast-result c = search plainly

pub returns : goal.returns
returns c = search plainly
