use borrow.Author.Rules.{rules}
use Rattle.tags_numbers.proofs.Numbered.{offsets}
use Rattle.tags_numbers.proofs.offset_in.Statement.{statement}
use Rattle.tags_numbers.proofs.offset_in.Tie as tie

pub offset_in_spec : {M : Type 1} → statement M
offset_in_spec =
    tie.close (tie.spec
    (λ c. search rules)
    (λ c. search offsets)
    (λ c. search offsets)
    (λ c. search rules)
    (λ c. search offsets))
