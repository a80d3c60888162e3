use borrow.Author.Rules.{rules}
use Rattle.pieces_cuts.proofs.Making.{makers}
use Rattle.pieces_cuts.proofs.cuts.malformed.Statement.{statement}
use Rattle.pieces_cuts.proofs.cuts.malformed.Tie as tie

pub malformed_spec : {M : Type 1} → statement M
malformed_spec =
    tie.close (tie.spec
    (λ c κs. search rules)
    (λ c. search makers))
