use borrow.Author.Rules.{rules}
use Rattle.pieces_cuts.proofs.Making.{makers}
use Rattle.pieces_cuts.proofs.cuts.unsupported.Statement.{statement}
use Rattle.pieces_cuts.proofs.cuts.unsupported.Tie as tie

pub unsupported_spec : {M : Type 1} → statement M
unsupported_spec =
    tie.close (tie.spec
    (λ c κs. search rules)
    (λ c. search makers))
