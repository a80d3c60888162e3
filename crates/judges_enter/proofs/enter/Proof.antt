use borrow.Author.Rules.{rules}
use Rattle.judges_enter.proofs.Entering.{entering}
use Rattle.judges_enter.proofs.enter.Statement.{statement}
use Rattle.judges_enter.proofs.enter.Tie as tie

pub enter_spec : {M : Type 1} → statement M
enter_spec =
    tie.close (tie.spec
    (λ c κs. search rules)
    (λ c κs. search rules)
    (λ c κs. search rules)
    (λ c κs. search rules)
    (λ c. search entering))
