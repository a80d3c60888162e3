use borrow.Author.Rules.{rules}
use Rattle.marks_ends.proofs.Closing.{closings}
use Rattle.marks_ends.proofs.close.Statement.{statement}
use Rattle.marks_ends.proofs.close.Tie as tie

pub close_spec : {M : Type 1} → statement M
close_spec =
    tie.close (tie.spec
    (λ c. search rules)
    (λ c κs. search rules)
    (λ c κs. search rules)
    (λ c. search rules)
    (λ c. search rules)
    (λ c. search closings))
