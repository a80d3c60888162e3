use Rattle.pieces_attributes.proofs.Attributing.{next_one}
use Rattle.pieces_attributes.proofs.next_attribute.Goals as goal

pub returns-then-name-at : goal.returns-then-name-at
returns-then-name-at c = search next_one

pub returns : goal.returns
returns c = search next_one
