use Rattle.undo_laws.proofs.Walks.{Reached}
use Rattle.undo_entries.proofs.beginning_of.Given as goal

abbrev pub invariant-loop : goal.invariant-loop
invariant-loop l = Reached l.room l.counter l.at
