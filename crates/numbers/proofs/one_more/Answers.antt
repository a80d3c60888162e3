use Rattle.numbers.proofs.Reading.{one_digit}
use Rattle.numbers.proofs.one_more.Goals as goal

pub returns-then-n : goal.returns-then-n
returns-then-n c = search one_digit

pub returns-then-n-d : goal.returns-then-n-d
returns-then-n-d c = search one_digit

pub returns : goal.returns
returns c = search one_digit
