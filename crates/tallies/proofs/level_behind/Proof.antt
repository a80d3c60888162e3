use Rattle.scan.proofs.Tests.{tests}
use Rattle.tallies.proofs.level_behind.Statement.{statement}
use Rattle.tallies.proofs.level_behind.Tie as tie

pub level_behind_spec : {M : Type 1} → statement M
level_behind_spec =
    tie.close (tie.spec
    (λ c. search tests)
    (λ c. search tests))
