use borrow.Author.Rules.{rules}
use Rattle.judges_leaf.proofs.Leaves.{leaf_words}
use Rattle.judges_leaf.proofs.is_leaf_good.Statement.{statement}
use Rattle.judges_leaf.proofs.is_leaf_good.Tie as tie

pub is_leaf_good_spec : {M : Type 1} → statement M
is_leaf_good_spec =
    tie.close (tie.spec
    (λ c κs. search rules)
    (λ c. search leaf_words))
