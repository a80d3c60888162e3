use borrow.Author.Rules.{rules}
use Rattle.keys.proofs.Keying.{numbering}
use Rattle.keys.proofs.number_of.Statement.{statement}
use Rattle.keys.proofs.number_of.Tie as tie

pub number_of_spec : {M : Type 1} → statement M
number_of_spec =
    tie.close (tie.spec
    (λ c. search numbering)
    (λ c. search rules)
    (λ c. search numbering)
    (λ c. search numbering)
    (λ c. search numbering))
