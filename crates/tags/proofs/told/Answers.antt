use Rattle.tags.proofs.Tagged.{tellings}
use Rattle.tags.proofs.told.Goals as goal

pub key_of-requires : goal.key_of-requires
key_of-requires c = search tellings

pub returns-then-number-ne0 : goal.returns-then-number-ne0
returns-then-number-ne0 c = search tellings

pub returns-then-is_text_wrong : goal.returns-then-is_text_wrong
returns-then-is_text_wrong c = search tellings

pub returns-then-known : goal.returns-then-known
returns-then-known c = search tellings

pub returns : goal.returns
returns c = search tellings
