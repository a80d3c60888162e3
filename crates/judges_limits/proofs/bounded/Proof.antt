use borrow.Author.Rules.{rules}
use Rattle.judges_limits.proofs.Limiting.{limits}
use Rattle.judges_limits.proofs.bounded.Statement.{statement}
use Rattle.judges_limits.proofs.bounded.Tie as tie

pub bounded_spec : {M : Type 1} → statement M
bounded_spec =
    tie.close (tie.spec
    (λ c κs. search rules)
    (λ c. search limits)
    (λ c κs. search rules)
    (λ c. search limits)
    (λ c. search limits))
