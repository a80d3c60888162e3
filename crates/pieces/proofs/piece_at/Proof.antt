use borrow.Author.Rules.{rules}
use Rattle.pieces.proofs.Cutting.{standing}
use Rattle.pieces.proofs.piece_at.Statement.{statement}
use Rattle.pieces.proofs.piece_at.Tie as tie

pub piece_at_spec : {M : Type 1} → statement M
piece_at_spec =
    tie.close (tie.spec
    (λ c. search rules)
    (λ c. search rules)
    (λ c. search rules)
    (λ c κs. search rules)
    (λ c. search rules)
    (λ c. search rules)
    (λ c. search rules)
    (λ c. search rules)
    (λ c. search standing))
