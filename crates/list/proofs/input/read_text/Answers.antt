use Rattle.list.proofs.Reading.{reading}
use Rattle.list.proofs.input.read_text.Goals as goal

pub returns-in_err-n : goal.returns-in_err-n
returns-in_err-n c = search reading

pub returns-then-n-eq0 : goal.returns-then-n-eq0
returns-then-n-eq0 c = search reading

pub returns : goal.returns
returns c = search reading
