use Rattle.tallies_elements.proofs.Elements.{leavings}
use Rattle.tallies_elements.proofs.first_leaving.Statement.{statement}
use Rattle.tallies_elements.proofs.first_leaving.Tie as tie

pub first_leaving_spec : {M : Type 1} → statement M
first_leaving_spec =
    tie.close (tie.spec
    (λ c. search leavings)
    (λ c. search leavings)
    (λ c. search leavings))
