use borrow.Author.Rules.{rules}
use Rattle.pieces_cuts.proofs.Making.{makers}
use Rattle.pieces_cuts.proofs.cuts.character.Statement.{statement}
use Rattle.pieces_cuts.proofs.cuts.character.Tie as tie

pub character_spec : {M : Type 1} → statement M
character_spec =
    tie.close (tie.spec
    (λ c κs. search rules)
    (λ c. search makers))
