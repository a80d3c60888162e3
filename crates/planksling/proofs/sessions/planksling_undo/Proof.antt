use borrow.Author.Rules.{rules}
use Rattle.outcomes.proofs.Telling.{told-number, told-place, told-value}
use Rattle.planksling.proofs.sessions.planksling_undo.Statement.{statement}
use Rattle.planksling.proofs.sessions.planksling_undo.Tie as tie

pub planksling-undo-spec : {M : Type 1} → statement M
planksling-undo-spec =
    tie.close (tie.spec
    (λ c κs. search rules)
    (λ c κs. search rules)
    (λ c. search rules)
    (λ c. (search (told-number, rules), (search (told-value, rules), (search (told-place, rules), search rules)))))
