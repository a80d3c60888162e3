use Rattle.pieces_marks.proofs.Reading.{end_tags}
use Rattle.pieces_tags.proofs.end_tag.Goals as goal

pub returns-then-behind-eq2 : goal.returns-then-behind-eq2
returns-then-behind-eq2 c = search end_tags

pub returns-then-begins_at : goal.returns-then-begins_at
returns-then-begins_at c = search end_tags

pub returns : goal.returns
returns c = search end_tags
