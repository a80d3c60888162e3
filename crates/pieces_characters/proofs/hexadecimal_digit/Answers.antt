use Rattle.pieces_characters.proofs.Numbering.{digit_values}
use Rattle.pieces_characters.proofs.hexadecimal_digit.Goals as goal

pub returns-then-is_digit : goal.returns-then-is_digit
returns-then-is_digit c = search digit_values

pub returns : goal.returns
returns c = search digit_values
