use borrow.Author.Rules.{rules}
use Rattle.tags_spots.proofs.Spotting.{quotes}
use Rattle.tags_spots.proofs.quote_at.Statement.{statement}
use Rattle.tags_spots.proofs.quote_at.Tie as tie

pub quote_at_spec : {M : Type 1} → statement M
quote_at_spec =
    tie.close (tie.spec
    (λ c κs. search rules)
    (λ c. search quotes)
    (λ c. search rules)
    (λ c κs. search rules)
    (λ c. search rules)
    (λ c κs. search rules)
    (λ c κs. search rules)
    (λ c. search quotes)
    (λ c. search rules)
    (λ c. search rules)
    (λ c. search quotes)
    (λ c κs. search rules)
    (λ c. search quotes)
    (λ c κs. search rules)
    (λ c. search quotes))
