use Rattle.tags_cells.proofs.Noting.{sizes}
use Rattle.tags_cells.proofs.size_within.Goals as goal

pub returns-then-value-at-clause-value : goal.returns-then-value-at-clause-value
returns-then-value-at-clause-value c = search sizes

pub returns-then-blanks-value-clause-value : goal.returns-then-blanks-value-clause-value
returns-then-blanks-value-clause-value c = search sizes

pub returns-clause-value : goal.returns-clause-value
returns-clause-value c = search sizes
