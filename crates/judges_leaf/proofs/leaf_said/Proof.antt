use borrow.Author.Rules.{rules}
use Rattle.judges_leaf.proofs.Leaves.{leaf_words}
use Rattle.judges_leaf.proofs.leaf_said.Statement.{statement}
use Rattle.judges_leaf.proofs.leaf_said.Tie as tie

pub leaf_said_spec : {M : Type 1} → statement M
leaf_said_spec =
    tie.close (tie.spec
    (λ c κs. search rules)
    (λ c κs. search rules)
    (λ c. search leaf_words)
    (λ c. search leaf_words))
