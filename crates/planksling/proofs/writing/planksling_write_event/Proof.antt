use borrow.Author.Rules.{rules}
use Rattle.outcomes.proofs.Telling.{told-number, told-place}
use Rattle.planksling.proofs.writing.planksling_write_event.Statement.{statement}
use Rattle.planksling.proofs.writing.planksling_write_event.Tie as tie

pub planksling-write-event-spec : {M : Type 1} → statement M
planksling-write-event-spec =
    tie.close (tie.spec
    (λ c κs. search rules)
    (λ c κs. search rules)
    (λ c. search rules)
    (λ c. (search (told-number, rules), (search (told-place, rules), search rules))))
