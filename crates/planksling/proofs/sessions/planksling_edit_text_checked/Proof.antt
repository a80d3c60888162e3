use borrow.Author.Rules.{rules}
use Rattle.outcomes.proofs.Telling.{told-number, told-value}
use Rattle.planksling.proofs.sessions.planksling_edit_text_checked.Statement.{statement}
use Rattle.planksling.proofs.sessions.planksling_edit_text_checked.Tie as tie

pub planksling-edit-text-checked-spec : {M : Type 1} → statement M
planksling-edit-text-checked-spec =
    tie.close (tie.spec
    (λ c κs. search rules)
    (λ c κs. search rules)
    (λ c. search rules)
    (λ c. search rules)
    (λ c. (search (told-number, rules), (search (told-value, rules), (search rules, search rules)))))
