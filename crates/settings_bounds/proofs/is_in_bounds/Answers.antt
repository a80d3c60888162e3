use Rattle.settings_bounds.proofs.Bounding.{between}
use Rattle.settings_bounds.proofs.is_in_bounds.Goals as goal

pub returns-then-is_at_most : goal.returns-then-is_at_most
returns-then-is_at_most c = search between

pub returns-else-is_at_most : goal.returns-else-is_at_most
returns-else-is_at_most c = search between
