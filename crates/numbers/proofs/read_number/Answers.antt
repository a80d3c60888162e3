use Rattle.numbers.proofs.Reading.{no_number, negative, positive}
use Rattle.numbers.proofs.read_number.Goals as goal

pub returns-in_err-n : goal.returns-in_err-n
returns-in_err-n c = rw c.from_residual.ensures (no_number c.args.value.now c.start_of-start.ensures.starts c.digits.ensures c.in_err-n.was)

pub returns-then-start : goal.returns-then-start
returns-then-start c = negative c.args.value.now c.start_of-start.ensures.starts c.digits.ensures c.in_ok-n.was c.if-start.true c.minus.ensures

pub returns-else-start : goal.returns-else-start
returns-else-start c = positive c.args.value.now c.start_of-start.ensures.starts c.digits.ensures c.in_ok-n.was c.if-start.false
