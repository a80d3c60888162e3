use Rattle.tags_values.proofs.Coded.{text_codes}
use Rattle.tags_values.proofs.is_text.Goals as goal

pub returns-in-1 : goal.returns-in-1
returns-in-1 c = search text_codes

pub returns-in-2 : goal.returns-in-2
returns-in-2 c = search text_codes

pub returns-in_default : goal.returns-in_default
returns-in_default c = search text_codes
