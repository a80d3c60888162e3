use borrow.Author.Rules.{rules}
use Rattle.parse_state.proofs.Beside.{steps}
use Rattle.parse_state.proofs.enter.Statement.{statement}
use Rattle.parse_state.proofs.enter.Tie as tie
use Rattle.tallies_state.proofs.enter.Reads as enter_reads'

pub enter_spec : {M : Type 1} → statement M
enter_spec =
    tie.close (tie.spec
    (λ c κs. search rules)
    (λ c κs. search rules)
    (λ c. search steps))
