use Rattle.contents.proofs.Decoding.{word_on, word_off}
use Rattle.contents.proofs.behind_word.Goals as goal

pub returns-then-begins_at : goal.returns-then-begins_at
returns-then-begins_at c = word_on _ _ _ c.begins_at.ensures c.if-begins_at.true

pub returns-else-begins_at : goal.returns-else-begins_at
returns-else-begins_at c = word_off _ _ _ c.begins_at.ensures c.if-begins_at.false
