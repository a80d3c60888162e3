use borrow.Author.Rules.{rules}
use Rattle.outcomes.proofs.Telling.{told_number, told_place, told_value}
use Rattle.planksling.proofs.Calls.{shown_told}
use Rattle.planksling.proofs.reading.planksling_read.Statement.{statement}
use Rattle.planksling.proofs.reading.planksling_read.Tie as tie

pub planksling_read_spec : {M : Type 1} → statement M
planksling_read_spec =
    tie.close (tie.spec
    (λ c κs. search rules)
    (λ c κs. search rules)
    (λ c. (search (told_number, shown_told, rules), (search (told_value, shown_told, rules), (search (told_value, shown_told, rules), (search (told_value, shown_told, rules), (search (told_value, shown_told, rules), (search (told_value, shown_told, rules), (search (told_value, shown_told, rules), search (told_place, shown_told, rules))))))))))
