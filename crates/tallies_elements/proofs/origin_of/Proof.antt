use Rattle.tallies_elements.proofs.Elements.{origins}
use Rattle.tallies_elements.proofs.origin_of.Statement.{statement}
use Rattle.tallies_elements.proofs.origin_of.Tie as tie

pub origin_of_spec : {M : Type 1} → statement M
origin_of_spec =
    tie.close (tie.spec
    (λ c. search origins)
    (λ c. search origins))
