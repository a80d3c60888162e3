use Rattle.tags_values.proofs.Coded.{text_codes}
use Rattle.tags_values.proofs.text_held.Goals as goal

pub returns-then-is_text : goal.returns-then-is_text
returns-then-is_text c = search text_codes

pub returns-else-is_text : goal.returns-else-is_text
returns-else-is_text c = search text_codes
