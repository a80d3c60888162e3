use borrow.Author.Rules.{rules}
use Rattle.rules_judge.specs.Octal.{table_rows, octal, row_numbers}
use Rattle.rules_judge.proofs.Octals.{rows_by_number}
use Rattle.judges_tables.proofs.row_of.Statement.{statement}
use Rattle.judges_tables.proofs.row_of.Tie as tie

pub row_of_spec : {M : Type 1} → statement M
unfolding table_rows octal row_numbers
row_of_spec =
    tie.close (tie.spec
    (λ c. search rules)
    (λ c. search rules)
    (λ c. search rows_by_number)
    (λ c. search rows_by_number))
