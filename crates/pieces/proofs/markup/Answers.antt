use Rattle.pieces.proofs.Cutting.{markups}
use Rattle.pieces.proofs.markup.Goals as goal

pub returns-then-begins_at : goal.returns-then-begins_at
returns-then-begins_at c = search markups

pub returns-then-begins_at-2 : goal.returns-then-begins_at-2
returns-then-begins_at-2 c = search markups

pub comment-requires : goal.comment-requires
comment-requires c = search markups

pub returns-then-begins_at-3 : goal.returns-then-begins_at-3
returns-then-begins_at-3 c = search markups

pub instruction-requires : goal.instruction-requires
instruction-requires c = search markups

pub returns-then-begins_at-4 : goal.returns-then-begins_at-4
returns-then-begins_at-4 c = search markups

pub end_tag-requires : goal.end_tag-requires
end_tag-requires c = search markups

pub returns-then-begins_at-5 : goal.returns-then-begins_at-5
returns-then-begins_at-5 c = search markups

pub returns : goal.returns
returns c = search markups
