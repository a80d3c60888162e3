use Rattle.scan.proofs.Tests.{tests}
use Rattle.tallies_state.proofs.root_with.Statement.{statement}
use Rattle.tallies_state.proofs.root_with.Tie as tie

pub root_with_spec : {M : Type 1} → statement M
root_with_spec =
    tie.close (tie.spec
    (λ c. search tests)
    (λ c. search tests))
