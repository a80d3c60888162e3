use Rattle.pieces_characters.proofs.Numbering.{digit_more}
use Rattle.pieces_characters.proofs.with_digit.Goals as goal

pub returns-then-hex : goal.returns-then-hex
returns-then-hex c = search digit_more

pub returns : goal.returns
returns c = search digit_more
