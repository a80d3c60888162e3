use Rattle.std.proofs.Common.{rules}
use Rattle.frames_hash.proofs.Hashing.{summing}
use Rattle.frames_hash.proofs.with_number.Statement.{statement}
use Rattle.frames_hash.proofs.with_number.Tie as tie

pub with_number_spec : {M : Type 1} → statement M
with_number_spec =
    tie.close (tie.spec
    (λ c. search rules)
    (λ c κs. search rules)
    (λ c κs. search rules)
    (λ c. search rules)
    (λ c κs. search rules)
    (λ c. search summing))
