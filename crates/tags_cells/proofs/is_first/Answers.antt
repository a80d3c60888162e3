use Rattle.tags_cells.proofs.Noting.{testing}
use Rattle.tags_cells.proofs.is_first.Goals as goal

pub returns-then-a-ne0 : goal.returns-then-a-ne0
returns-then-a-ne0 c = search testing
