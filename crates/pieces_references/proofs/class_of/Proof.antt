use Rattle.pieces_references.proofs.Referring.{classes}
use Rattle.pieces_references.proofs.class_of.Statement.{statement}
use Rattle.pieces_references.proofs.class_of.Tie as tie

pub class_of_spec : {M : Type 1} → statement M
class_of_spec =
    tie.close (tie.spec
    (λ c. search classes)
    (λ c. search classes))
