use Rattle.numbers.proofs.Reading.{making}
use Rattle.numbers.proofs.with_sign.Goals as goal

pub returns : goal.returns
returns c = search making
