use Rattle.tags_values.proofs.Ranged.{in_range}
use Rattle.tags_values.proofs.is_in_range.Goals as goal

pub returns-then-n : goal.returns-then-n
returns-then-n c = search in_range

pub returns-then-n-2 : goal.returns-then-n-2
returns-then-n-2 c = search in_range

pub returns : goal.returns
returns c = search in_range
