use borrow.Author.Rules.{rules}
use Rattle.tallies_state.proofs.Entering.{entering}
use Rattle.tallies_state.proofs.start.Statement.{statement}
use Rattle.tallies_state.proofs.start.Tie as tie

pub start_spec : {M : Type 1} → statement M
start_spec =
    tie.close (tie.spec
    (λ c κs. search rules)
    (λ c. search entering))
