use borrow.Author.Rules.{rules}
use Rattle.parse_state.proofs.Beside.{steps}
use Rattle.parse_state.proofs.with_rare.Statement.{statement}
use Rattle.parse_state.proofs.with_rare.Tie as tie

pub with_rare_spec : {M : Type 1} → statement M
with_rare_spec =
    tie.close (tie.spec
    (λ c κs. search rules)
    (λ c. search steps))
