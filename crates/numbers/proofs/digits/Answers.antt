use Rattle.numbers.proofs.Reading.{digit_loop}
use Rattle.numbers.proofs.digits.Goals as goal

pub returns-then-not-is_digit : goal.returns-then-not-is_digit
returns-then-not-is_digit c = search digit_loop

pub loop-i-preserved : goal.loop-i-preserved
loop-i-preserved c = search digit_loop

pub returns-then-is_empty : goal.returns-then-is_empty
returns-then-is_empty c = search digit_loop

pub returns-else-is_empty : goal.returns-else-is_empty
returns-else-is_empty c = search digit_loop
