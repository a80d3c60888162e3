use Rattle.pieces_attributes.proofs.Attributing.{an_attribute}
use Rattle.pieces_attributes.proofs.attribute_at.Goals as goal

pub returns-then-behind-at : goal.returns-then-behind-at
returns-then-behind-at c = search an_attribute

pub returns-then-not-begins_at : goal.returns-then-not-begins_at
returns-then-not-begins_at c = search an_attribute

pub blanks-quote-requires : goal.blanks-quote-requires
blanks-quote-requires c = search an_attribute

pub returns-in_err-end : goal.returns-in_err-end
returns-in_err-end c = search an_attribute

pub returns : goal.returns
returns c = search an_attribute
