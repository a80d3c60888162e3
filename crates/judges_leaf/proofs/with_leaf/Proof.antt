use borrow.Author.Rules.{rules}
use Rattle.judges_leaf.proofs.Leaves.{leaves}
use Rattle.judges_leaf.proofs.with_leaf.Statement.{statement}
use Rattle.judges_leaf.proofs.with_leaf.Tie as tie

pub with_leaf_spec : {M : Type 1} → statement M
with_leaf_spec =
    tie.close (tie.spec
    (λ c κs. search rules)
    (λ c κs. search rules)
    (λ c. search leaves))
