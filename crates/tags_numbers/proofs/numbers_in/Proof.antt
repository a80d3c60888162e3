use borrow.Author.Rules.{rules}
use Rattle.tags_numbers.proofs.Numbered.{giving}
use Rattle.tags_numbers.proofs.numbers_in.Statement.{statement}
use Rattle.tags_numbers.proofs.numbers_in.Tie as tie

pub numbers_in_spec : {M : Type 1} → statement M
numbers_in_spec =
    tie.close (tie.spec
    (λ c. search rules)
    (λ c. search rules)
    (λ c. search rules)
    (λ c. search rules)
    (λ c. search giving)
    (λ c. search rules)
    (λ c. search rules)
    (λ c κs. search rules)
    (λ c. search rules)
    (λ c κs. search rules)
    (λ c. search rules)
    (λ c. search giving))
