use Rattle.scan.proofs.Tests.{tests}
use Rattle.tallies_elements.proofs.width_of.Statement.{statement}
use Rattle.tallies_elements.proofs.width_of.Tie as tie

pub width_of_spec : {M : Type 1} → statement M
width_of_spec =
    tie.close (tie.spec
    (λ c. search tests)
    (λ c. search tests))
