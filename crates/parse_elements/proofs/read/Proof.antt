use borrow.Author.Rules.{rules}
use Rattle.parse_elements.proofs.Contents.{reading}
use Rattle.parse_elements.proofs.read.Statement.{statement}
use Rattle.parse_elements.proofs.read.Tie as tie

pub read_spec : {M : Type 1} → statement M
read_spec =
    tie.close (tie.spec
    (λ c κs. search rules)
    (λ c κs. search rules)
    (λ c. search rules)
    (λ c. search reading))
