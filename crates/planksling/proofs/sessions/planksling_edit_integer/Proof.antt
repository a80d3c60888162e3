use borrow.Author.Rules.{rules}
use Rattle.outcomes.proofs.Telling.{told-number, told-place, told-value}
use Rattle.planksling.proofs.sessions.planksling_edit_integer.Statement.{statement}
use Rattle.planksling.proofs.sessions.planksling_edit_integer.Tie as tie

pub planksling-edit-integer-spec : {M : Type 1} → statement M
planksling-edit-integer-spec =
    tie.close (tie.spec
    (λ c κs. search rules)
    (λ c κs. search rules)
    (λ c. search rules)
    (λ c. search rules)
    (λ c. (search (told-number, rules), (search (told-value, rules), (search (told-place, rules), (search rules, search rules))))))
