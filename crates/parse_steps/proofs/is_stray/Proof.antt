use borrow.Author.Rules.{rules}
use Rattle.parse_steps.proofs.is_stray.Statement.{statement}
use Rattle.parse_steps.proofs.is_stray.Tie as tie

pub is_stray_spec : {M : Type 1} → statement M
is_stray_spec =
    tie.close (tie.spec
    (λ c. search rules))
