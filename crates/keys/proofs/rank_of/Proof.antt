use borrow.Author.Rules.{rules}
use Rattle.keys.proofs.Keying.{ranking}
use Rattle.keys.proofs.rank_of.Statement.{statement}
use Rattle.keys.proofs.rank_of.Tie as tie

pub rank_of_spec : {M : Type 1} → statement M
rank_of_spec =
    tie.close (tie.spec
    (λ c. search ranking)
    (λ c. search rules)
    (λ c. search ranking)
    (λ c. search rules)
    (λ c. search ranking)
    (λ c. search ranking))
