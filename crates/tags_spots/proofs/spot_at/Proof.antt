use borrow.Author.Rules.{rules}
use Rattle.tags_spots.proofs.Spotting.{spots}
use Rattle.tags_spots.proofs.spot_at.Statement.{statement}
use Rattle.tags_spots.proofs.spot_at.Tie as tie

pub spot_at_spec : {M : Type 1} → statement M
spot_at_spec =
    tie.close (tie.spec
    (λ c κs. search rules)
    (λ c κs. search rules)
    (λ c. search spots)
    (λ c κs. search rules)
    (λ c κs. search rules)
    (λ c. search rules)
    (λ c κs. search spots)
    (λ c κs. search rules)
    (λ c. search rules)
    (λ c κs. search rules)
    (λ c. search spots)
    (λ c. search rules)
    (λ c. search rules)
    (λ c. search spots)
    (λ c κs. search rules)
    (λ c. search spots))
