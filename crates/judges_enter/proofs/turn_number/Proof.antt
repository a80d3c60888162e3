use Rattle.judges_enter.proofs.Entering.{turns}
use Rattle.judges_enter.proofs.turn_number.Statement.{statement}
use Rattle.judges_enter.proofs.turn_number.Tie as tie

pub turn_number_spec : {M : Type 1} → statement M
turn_number_spec =
    tie.close (tie.spec
    (λ c. search turns)
    (λ c. search turns))
