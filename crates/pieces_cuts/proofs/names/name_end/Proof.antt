use borrow.Author.Rules.{rules}
use Rattle.pieces_cuts.proofs.Finding.{name_ends}
use Rattle.pieces_cuts.proofs.names.name_end.Statement.{statement}
use Rattle.pieces_cuts.proofs.names.name_end.Tie as tie

pub name_end_spec : {M : Type 1} → statement M
name_end_spec =
    tie.close (tie.spec
    (λ c. search name_ends)
    (λ c. search rules)
    (λ c κs. search rules)
    (λ c. search rules)
    (λ c κs. search rules)
    (λ c. search name_ends)
    (λ c. search name_ends))
