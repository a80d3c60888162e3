use borrow.Author.Rules.{rules}
use Rattle.marks_ends.proofs.Closing.{read_ends}
use Rattle.marks_ends.proofs.read_close.Statement.{statement}
use Rattle.marks_ends.proofs.read_close.Tie as tie

pub read_close_spec : {M : Type 1} → statement M
read_close_spec =
    tie.close (tie.spec
    (λ c κs. search rules)
    (λ c. search read_ends)
    (λ c. search rules)
    (λ c. search rules)
    (λ c. search rules)
    (λ c. search rules)
    (λ c. search read_ends)
    (λ c. search read_ends)
    (λ c. search rules)
    (λ c κs. search rules)
    (λ c. search read_ends)
    (λ c. search read_ends))
