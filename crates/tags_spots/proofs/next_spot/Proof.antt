use borrow.Author.Rules.{rules}
use Rattle.tags_spots.proofs.Spotting.{next_spots}
use Rattle.tags_spots.proofs.next_spot.Statement.{statement}
use Rattle.tags_spots.proofs.next_spot.Tie as tie

pub next_spot_spec : {M : Type 1} → statement M
next_spot_spec =
    tie.close (tie.spec
    (λ c κs. search rules)
    (λ c κs. search rules)
    (λ c. search next_spots)
    (λ c κs. search rules)
    (λ c κs. search rules)
    (λ c. search next_spots)
    (λ c. search next_spots))
