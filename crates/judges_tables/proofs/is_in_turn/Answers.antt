use Rattle.rules_judge.proofs.Tabled.{turns}
use Rattle.judges_tables.proofs.is_in_turn.Goals as goal

pub returns-then-entry-last : goal.returns-then-entry-last
returns-then-entry-last c = search turns

pub returns-then-entry-many_of : goal.returns-then-entry-many_of
returns-then-entry-many_of c = search turns

pub returns : goal.returns
returns c = search turns
