use Rattle.judges_enter.proofs.Entering.{rows_in}
use Rattle.judges_enter.proofs.row_in.Statement.{statement}
use Rattle.judges_enter.proofs.row_in.Tie as tie

pub row_in_spec : {M : Type 1} → statement M
row_in_spec =
    tie.close (tie.spec
    (λ c. search rows_in)
    (λ c. search rows_in))
