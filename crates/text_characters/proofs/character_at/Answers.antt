use Rattle.text_characters.proofs.Characters.{by_place}
use Rattle.text_characters.proofs.character_at.Goals as goal

pub returns-then-s-at : goal.returns-then-s-at
returns-then-s-at c = search by_place

pub returns-then-s-at-ge4 : goal.returns-then-s-at-ge4
returns-then-s-at-ge4 c = search by_place

pub returns : goal.returns
returns c = search by_place
