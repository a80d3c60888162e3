use Rattle.numbers_order.proofs.Order.{order}
use Rattle.numbers_order.proofs.is_at_most.Goals as goal

pub returns-in-true-true : goal.returns-in-true-true
returns-in-true-true c = search order

pub returns-in-true-false : goal.returns-in-true-false
returns-in-true-false c = search order

pub returns-then-is_nought : goal.returns-then-is_nought
returns-then-is_nought c = search order

pub returns-else-is_nought : goal.returns-else-is_nought
returns-else-is_nought c = search order

pub returns-in-false-false : goal.returns-in-false-false
returns-in-false-false c = search order
