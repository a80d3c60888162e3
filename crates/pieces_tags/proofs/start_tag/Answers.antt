use Rattle.pieces_tags.proofs.Tagging.{start_tags}
use Rattle.pieces_tags.proofs.start_tag.Goals as goal

pub returns-then-behind-eq1 : goal.returns-then-behind-eq1
returns-then-behind-eq1 c = search start_tags

pub wide_tag-requires : goal.wide_tag-requires
wide_tag-requires c = search start_tags

pub returns-then-wide : goal.returns-then-wide
returns-then-wide c = search start_tags

pub tag-requires : goal.tag-requires
tag-requires c = search start_tags

pub returns-then-begins_at : goal.returns-then-begins_at
returns-then-begins_at c = search start_tags

pub wide_tag-requires-then-wide-2 : goal.wide_tag-requires-then-wide-2
wide_tag-requires-then-wide-2 c = search start_tags

pub returns-then-wide-2 : goal.returns-then-wide-2
returns-then-wide-2 c = search start_tags

pub tag-requires-then-begins_at-2 : goal.tag-requires-then-begins_at-2
tag-requires-then-begins_at-2 c = search start_tags

pub returns-then-begins_at-2 : goal.returns-then-begins_at-2
returns-then-begins_at-2 c = search start_tags

pub returns : goal.returns
returns c = search start_tags
