use borrow.Author.Rules.{rules}
use Rattle.keys.proofs.Keying.{keying}
use Rattle.keys.proofs.key_of.Statement.{statement}
use Rattle.keys.proofs.key_of.Tie as tie

pub key_of_spec : {M : Type 1} → statement M
key_of_spec =
    tie.close (tie.spec
    (λ c. search rules)
    (λ c κs. search rules)
    (λ c. search rules)
    (λ c. search keying))
