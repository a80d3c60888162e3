use borrow.Author.Rules.{rules}
use Rattle.parse_steps.proofs.is_over.Statement.{statement}
use Rattle.parse_steps.proofs.is_over.Tie as tie

pub is_over_spec : {M : Type 1} → statement M
is_over_spec =
    tie.close (tie.spec
    (λ c. search rules))
