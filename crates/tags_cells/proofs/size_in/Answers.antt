use Rattle.tags_cells.proofs.Noting.{sizes}
use Rattle.tags_cells.proofs.size_in.Goals as goal

pub returns-in-len1-clause-value : goal.returns-in-len1-clause-value
returns-in-len1-clause-value c = search sizes
