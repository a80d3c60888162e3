use borrow.Author.Rules.{rules}
use Rattle.parse_steps.proofs.is_outside.Statement.{statement}
use Rattle.parse_steps.proofs.is_outside.Tie as tie

pub is_outside_spec : {M : Type 1} → statement M
is_outside_spec =
    tie.close (tie.spec
    (λ c. search rules))
