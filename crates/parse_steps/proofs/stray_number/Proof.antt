use Rattle.scan.proofs.Tests.{tests}
use Rattle.parse_steps.proofs.stray_number.Statement.{statement}
use Rattle.parse_steps.proofs.stray_number.Tie as tie

pub stray_number_spec : {M : Type 1} → statement M
stray_number_spec =
    tie.close (tie.spec
    (λ c. search tests)
    (λ c. search tests))
