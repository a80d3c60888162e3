use borrow.Author.Rules.{rules}
use borrow.Author.Rules.{rules}
use Rattle.parse_marks.specs.Rare.{is_refer}
use Rattle.parse_marks.proofs.is_refer.Statement.{statement}
use Rattle.parse_marks.proofs.is_refer.Tie as tie

pub is_refer_spec : {M : Type 1} → statement M
unfolding is_refer
is_refer_spec =
    tie.close (tie.spec
    (λ c. search rules)
    (λ c. search rules)
    (λ c. search rules)
    (λ c. search rules)
    (λ c. search rules)
    (λ c. search rules)
    (λ c. search rules)
    (λ c. search rules)
    (λ c. search rules)
    (λ c. search rules)
    (λ c. search rules)
    (λ c. search rules)
    (λ c. search rules)
    (λ c. search rules))
