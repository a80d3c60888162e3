use Rattle.tags_values.proofs.Coded.{number_codes}
use Rattle.tags_values.proofs.number_held.Goals as goal

pub returns-in_default : goal.returns-in_default
returns-in_default c = search number_codes

pub returns-then-is_in_range : goal.returns-then-is_in_range
returns-then-is_in_range c = search number_codes

pub returns-else-is_in_range : goal.returns-else-is_in_range
returns-else-is_in_range c = search number_codes
