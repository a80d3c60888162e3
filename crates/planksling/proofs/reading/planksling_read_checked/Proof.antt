use borrow.Author.Rules.{rules}
use Rattle.outcomes.proofs.Telling.{told-number, told-value}
use Rattle.planksling.proofs.Calls.{shown-told}
use Rattle.planksling.proofs.reading.planksling_read_checked.Statement.{statement}
use Rattle.planksling.proofs.reading.planksling_read_checked.Tie as tie

pub planksling-read-checked-spec : {M : Type 1} → statement M
planksling-read-checked-spec =
    tie.close (tie.spec
    (λ c κs. search rules)
    (λ c κs. search rules)
    (λ c. (search (told-number, shown-told, rules), (search (told-value, shown-told, rules), (search (told-value, shown-told, rules), (search (told-value, shown-told, rules), (search (told-value, shown-told, rules), (search (told-value, shown-told, rules), search (told-value, shown-told, rules)))))))))
