use Rattle.pieces_attributes.proofs.Attributing.{values}
use Rattle.pieces_attributes.proofs.value_end.Goals as goal

pub returns-then-s-at : goal.returns-then-s-at
returns-then-s-at c = search values

pub returns-then-not-is_quote : goal.returns-then-not-is_quote
returns-then-not-is_quote c = search values

pub returns-then-s-close : goal.returns-then-s-close
returns-then-s-close c = search values

pub returns : goal.returns
returns c = search values
