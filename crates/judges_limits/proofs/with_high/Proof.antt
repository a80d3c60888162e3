use Rattle.judges_limits.proofs.Limiting.{firsts}
use Rattle.judges_limits.proofs.with_high.Statement.{statement}
use Rattle.judges_limits.proofs.with_high.Tie as tie

pub with_high_spec : {M : Type 1} → statement M
with_high_spec =
    tie.close (tie.spec
    (λ c. search firsts)
    (λ c. search firsts))
