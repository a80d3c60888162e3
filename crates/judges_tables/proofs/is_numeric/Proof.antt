use borrow.Author.Rules.{rules}
use Rattle.rules_judge.specs.Parts.{is_numeric}
use Rattle.judges_tables.proofs.is_numeric.Statement.{statement}
use Rattle.judges_tables.proofs.is_numeric.Tie as tie

pub is_numeric_spec : {M : Type 1} → statement M
unfolding is_numeric
is_numeric_spec =
    tie.close (tie.spec
    (λ c. search rules))
