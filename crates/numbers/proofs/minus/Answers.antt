use Rattle.numbers.proofs.Reading.{minuses}
use Rattle.numbers.proofs.minus.Goals as goal

pub returns-then-n : goal.returns-then-n
returns-then-n c = search minuses

pub returns-else-n : goal.returns-else-n
returns-else-n c = search minuses
