use borrow.Author.Rules.{rules}
use Rattle.outcomes.proofs.Telling.{told_number, told_value}
use Rattle.planksling.proofs.locating.planksling_list.Statement.{statement}
use Rattle.planksling.proofs.locating.planksling_list.Tie as tie

pub planksling_list_spec : {M : Type 1} → statement M
planksling_list_spec =
    tie.close (tie.spec
    (λ c κs. search rules)
    (λ c κs. search rules)
    (λ c. search rules)
    (λ c. (search (told_number, rules), (search (told_value, rules), search rules))))
