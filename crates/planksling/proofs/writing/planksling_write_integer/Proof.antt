use borrow.Author.Rules.{rules}
use Rattle.outcomes.proofs.Telling.{told-number, told-place}
use Rattle.planksling.proofs.writing.planksling_write_integer.Statement.{statement}
use Rattle.planksling.proofs.writing.planksling_write_integer.Tie as tie

pub planksling-write-integer-spec : {M : Type 1} → statement M
planksling-write-integer-spec =
    tie.close (tie.spec
    (λ c κs. search rules)
    (λ c κs. search rules)
    (λ c. search rules)
    (λ c. (search (told-number, rules), (search (told-place, rules), search rules))))
