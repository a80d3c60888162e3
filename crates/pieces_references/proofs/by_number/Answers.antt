use Rattle.pieces_references.proofs.Referring.{by_numbers}
use Rattle.pieces_references.proofs.by_number.Goals as goal

pub numbered-requires : goal.numbered-requires
numbered-requires c = search by_numbers

pub returns-then-begins_at : goal.returns-then-begins_at
returns-then-begins_at c = search by_numbers

pub numbered-requires-then-begins_at-2 : goal.numbered-requires-then-begins_at-2
numbered-requires-then-begins_at-2 c = search by_numbers

pub returns-then-begins_at-2 : goal.returns-then-begins_at-2
returns-then-begins_at-2 c = search by_numbers

pub returns : goal.returns
returns c = search by_numbers
