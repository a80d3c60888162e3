use borrow.Author.Rules.{rules}
use Rattle.rules_judge.specs.Octal.{octal, several_entries, several_number}
use Rattle.rules_judge.proofs.Octals.{several_at}
use Rattle.judges_tables.proofs.many_of.Statement.{statement}
use Rattle.judges_tables.proofs.many_of.Tie as tie

pub many_of_spec : {M : Type 1} → statement M
unfolding octal several_entries several_number
many_of_spec =
    tie.close (tie.spec
    (λ c κs. search rules)
    (λ c. search several_at)
    (λ c. search several_at))
