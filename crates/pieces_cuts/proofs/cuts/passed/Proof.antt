use borrow.Author.Rules.{rules}
use Rattle.pieces_cuts.proofs.Making.{makers}
use Rattle.pieces_cuts.proofs.cuts.passed.Statement.{statement}
use Rattle.pieces_cuts.proofs.cuts.passed.Tie as tie

pub passed_spec : {M : Type 1} → statement M
passed_spec =
    tie.close (tie.spec
    (λ c κs. search rules)
    (λ c. search makers))
