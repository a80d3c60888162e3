use borrow.Author.Rules.{rules}
use Rattle.marks_sorts.proofs.Sorting.{sorting}
use Rattle.marks_sorts.proofs.sort_of.Statement.{statement}
use Rattle.marks_sorts.proofs.sort_of.Tie as tie

pub sort_of_spec : {M : Type 1} → statement M
sort_of_spec =
    tie.close (tie.spec
    (λ c. search rules)
    (λ c. search rules)
    (λ c κs. search rules)
    (λ c. search sorting)
    (λ c. search sorting)
    (λ c. search sorting)
    (λ c. search sorting)
    (λ c. search sorting)
    (λ c. search sorting))
