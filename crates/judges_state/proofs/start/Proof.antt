use borrow.Author.Rules.{rules}
use Rattle.judges_state.proofs.Starting.{starting}
use Rattle.judges_state.proofs.start.Statement.{statement}
use Rattle.judges_state.proofs.start.Tie as tie

pub start_spec : {M : Type 1} → statement M
start_spec =
    tie.close (tie.spec
    (λ c κs. search rules)
    (λ c. search starting))
