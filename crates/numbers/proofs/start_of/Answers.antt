use Rattle.numbers.proofs.Reading.{starts}
use Rattle.numbers.proofs.start_of.Goals as goal

pub returns-then-is_digit-clause-starts : goal.returns-then-is_digit-clause-starts
returns-then-is_digit-clause-starts c = search starts

pub returns-clause-starts : goal.returns-clause-starts
returns-clause-starts c = search starts
