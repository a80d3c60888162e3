use borrow.Author.Rules.{rules}
use Rattle.rules_judge.proofs.Octals.{entries}
use Rattle.judges_tables.proofs.entry_of.Statement.{statement}
use Rattle.judges_tables.proofs.entry_of.Tie as tie

pub entry_of_spec : {M : Type 1} → statement M
entry_of_spec =
    tie.close (tie.spec
    (λ c κs. search rules)
    (λ c. search entries)
    (λ c κs. search rules)
    (λ c κs. search rules)
    (λ c. search entries)
    (λ c. search entries))
