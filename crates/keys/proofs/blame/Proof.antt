use borrow.Author.Rules.{rules}
use Rattle.keys.proofs.Keying.{with_keys}
use Rattle.keys.proofs.blame.Statement.{statement}
use Rattle.keys.proofs.blame.Tie as tie

pub blame_spec : {M : Type 1} → statement M
blame_spec =
    tie.close (tie.spec
    (λ c κs. search rules)
    (λ c κs. search rules)
    (λ c. search with_keys))
