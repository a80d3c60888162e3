use Rattle.pieces_references.proofs.Referring.{numbers}
use Rattle.pieces_references.proofs.numbered.Goals as goal

pub returns-then-end-at : goal.returns-then-end-at
returns-then-end-at c = search numbers

pub character-requires : goal.character-requires
character-requires c = search numbers

pub returns-then-is_char : goal.returns-then-is_char
returns-then-is_char c = search numbers

pub returns-then-begins_at : goal.returns-then-begins_at
returns-then-begins_at c = search numbers

pub returns : goal.returns
returns c = search numbers
