use borrow.Author.Rules.{rules}
use Rattle.outcomes.proofs.Telling.{told_number, told_place, told_value}
use Rattle.planksling.proofs.sessions.planksling_edit_event.Statement.{statement}
use Rattle.planksling.proofs.sessions.planksling_edit_event.Tie as tie

pub planksling_edit_event_spec : {M : Type 1} → statement M
planksling_edit_event_spec =
    tie.close (tie.spec
    (λ c κs. search rules)
    (λ c κs. search rules)
    (λ c. search rules)
    (λ c. search rules)
    (λ c. (search (told_number, rules), (search (told_value, rules), (search (told_place, rules), (search rules, search rules))))))
