use Rattle.scan.proofs.Tests.{tests}
use Rattle.tallies_elements.proofs.copies_of.Statement.{statement}
use Rattle.tallies_elements.proofs.copies_of.Tie as tie

pub copies_of_spec : {M : Type 1} → statement M
copies_of_spec =
    tie.close (tie.spec
    (λ c. search tests)
    (λ c. search tests))
