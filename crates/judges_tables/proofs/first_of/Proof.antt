use borrow.Author.Rules.{rules}
use Rattle.rules_judge.proofs.Octals.{first_ways}
use Rattle.judges_tables.proofs.first_of.Statement.{statement}
use Rattle.judges_tables.proofs.first_of.Tie as tie

pub first_of_spec : {M : Type 1} → statement M
first_of_spec =
    tie.close (tie.spec
    (λ c. search first_ways)
    (λ c. search first_ways))
