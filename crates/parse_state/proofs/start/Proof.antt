use borrow.Author.Rules.{rules}
use Rattle.parse_state.proofs.Beside.{steps}
use Rattle.parse_state.proofs.start.Statement.{statement}
use Rattle.parse_state.proofs.start.Tie as tie
use Rattle.judges_state.proofs.start.Reads as start_reads'

pub start_spec : {M : Type 1} → statement M
start_spec =
    tie.close (tie.spec
    (λ c κs. search rules)
    (λ c κs. search rules)
    (λ c. search steps))
