use borrow.Author.Rules.{rules}
use Rattle.tags_numbers.proofs.Numbered.{giving}
use Rattle.tags_numbers.proofs.bare_numbers.Statement.{statement}
use Rattle.tags_numbers.proofs.bare_numbers.Tie as tie

pub bare_numbers_spec : {M : Type 1} → statement M
bare_numbers_spec =
    tie.close (tie.spec
    (λ c κs. search rules)
    (λ c. search giving))
