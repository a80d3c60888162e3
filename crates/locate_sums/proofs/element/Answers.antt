use Rattle.locate_sums.proofs.Limits.{elements}
use Rattle.locate_sums.proofs.element.Goals as goal

pub returns-then-rise_at-eq-GROUP : goal.returns-then-rise_at-eq-GROUP
returns-then-rise_at-eq-GROUP c = search elements

pub returns-else-rise_at-eq-GROUP : goal.returns-else-rise_at-eq-GROUP
returns-else-rise_at-eq-GROUP c = search elements
