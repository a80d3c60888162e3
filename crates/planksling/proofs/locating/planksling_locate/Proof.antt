use borrow.Author.Rules.{rules}
use Rattle.outcomes.proofs.Telling.{told-number, told-value}
use Rattle.planksling.proofs.locating.planksling_locate.Statement.{statement}
use Rattle.planksling.proofs.locating.planksling_locate.Tie as tie

pub planksling-locate-spec : {M : Type 1} → statement M
planksling-locate-spec =
    tie.close (tie.spec
    (λ c κs. search rules)
    (λ c κs. search rules)
    (λ c. (search (told-number, rules), (search (told-value, rules), (search (told-value, rules), (search (told-value, rules), (search (told-value, rules), search (told-value, rules))))))))
