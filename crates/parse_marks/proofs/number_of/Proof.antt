use borrow.Author.Rules.{rules}
use borrow.Author.Rules.{rules}
use Rattle.parse_marks.specs.Rare.{rare_fault}
use Rattle.parse_marks.proofs.number_of.Statement.{statement}
use Rattle.parse_marks.proofs.number_of.Tie as tie

pub number_of_spec : {M : Type 1} → statement M
unfolding rare_fault
number_of_spec =
    tie.close (tie.spec
    (λ c. search rules)
    (λ c. search rules)
    (λ c. search rules)
    (λ c. search rules)
    (λ c. search rules)
    (λ c. search rules)
    (λ c. search rules)
    (λ c. search rules)
    (λ c. search rules)
    (λ c. search rules)
    (λ c. search rules)
    (λ c. search rules)
    (λ c. search rules)
    (λ c. search rules))
