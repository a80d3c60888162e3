use borrow.Author.Rules.{rules}
use Rattle.keys.proofs.Keying.{unlesses}
use Rattle.keys.proofs.blame_unless.Statement.{statement}
use Rattle.keys.proofs.blame_unless.Tie as tie

pub blame_unless_spec : {M : Type 1} → statement M
blame_unless_spec =
    tie.close (tie.spec
    (λ c. search unlesses)
    (λ c κs. search rules)
    (λ c. search unlesses))
