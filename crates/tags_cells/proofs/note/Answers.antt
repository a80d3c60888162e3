use Rattle.tags_cells.proofs.Noting.{noting}
use Rattle.tags_cells.proofs.note.Goals as goal

pub hold-held-requires : goal.hold-held-requires
hold-held-requires c = search noting

pub returns-then-is_first-clause-code : goal.returns-then-is_first-clause-code
returns-then-is_first-clause-code c = search noting

pub returns-then-is_first-clause-amount : goal.returns-then-is_first-clause-amount
returns-then-is_first-clause-amount c = search noting

pub returns-else-is_first-clause-code : goal.returns-else-is_first-clause-code
returns-else-is_first-clause-code c = search noting

pub returns-else-is_first-clause-amount : goal.returns-else-is_first-clause-amount
returns-else-is_first-clause-amount c = search noting
