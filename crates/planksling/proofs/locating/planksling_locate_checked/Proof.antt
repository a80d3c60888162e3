use borrow.Author.Rules.{rules}
use Rattle.outcomes.proofs.Telling.{told-number, told-value}
use Rattle.planksling.proofs.locating.planksling_locate_checked.Statement.{statement}
use Rattle.planksling.proofs.locating.planksling_locate_checked.Tie as tie

pub planksling-locate-checked-spec : {M : Type 1} → statement M
planksling-locate-checked-spec =
    tie.close (tie.spec
    (λ c κs. search rules)
    (λ c κs. search rules)
    (λ c. (search (told-number, rules), (search (told-value, rules), (search (told-value, rules), (search (told-value, rules), (search (told-value, rules), search (told-value, rules))))))))
