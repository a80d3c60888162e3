use Rattle.judges_limits.proofs.Limiting.{firsts}
use Rattle.judges_limits.proofs.with_low.Statement.{statement}
use Rattle.judges_limits.proofs.with_low.Tie as tie

pub with_low_spec : {M : Type 1} → statement M
with_low_spec =
    tie.close (tie.spec
    (λ c. search firsts)
    (λ c. search firsts))
