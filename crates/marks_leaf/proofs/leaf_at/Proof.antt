use borrow.Author.Rules.{rules}
use Rattle.marks_leaf.proofs.Plainly.{leaves}
use Rattle.marks_leaf.proofs.leaf_at.Statement.{statement}
use Rattle.marks_leaf.proofs.leaf_at.Tie as tie

pub leaf_at_spec : {M : Type 1} → statement M
leaf_at_spec =
    tie.close (tie.spec
    (λ c. search leaves)
    (λ c. search rules)
    (λ c. search leaves)
    (λ c. search rules)
    (λ c κs. search rules)
    (λ c. search rules)
    (λ c. search leaves)
    (λ c. search rules)
    (λ c. search rules)
    (λ c. search rules)
    (λ c. search leaves)
    (λ c. search rules)
    (λ c. search rules)
    (λ c κs. search rules)
    (λ c. search leaves))
