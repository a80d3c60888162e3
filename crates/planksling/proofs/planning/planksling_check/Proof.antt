use borrow.Author.Rules.{rules}
use Rattle.outcomes.proofs.Telling.{told_number, told_place, told_value}
use Rattle.planksling.proofs.planning.planksling_check.Statement.{statement}
use Rattle.planksling.proofs.planning.planksling_check.Tie as tie

pub planksling_check_spec : {M : Type 1} → statement M
planksling_check_spec =
    tie.close (tie.spec
    (λ c κs. search rules)
    (λ c κs. search rules)
    (λ c. (search (told_number, rules), (search (told_value, rules), search (told_place, rules)))))
