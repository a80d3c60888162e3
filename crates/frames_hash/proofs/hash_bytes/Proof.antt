use Rattle.std.proofs.Common.{rules}
use Rattle.frames_hash.specs.Hash.{hash_of}
use Rattle.frames_hash.proofs.hash_bytes.Statement.{statement}
use Rattle.frames_hash.proofs.hash_bytes.Tie as tie

pub hash_bytes_spec : {M : Type 1} → statement M
unfolding hash_of
hash_bytes_spec =
    tie.close (tie.spec
    (λ c κs. search rules)
    (λ c. search rules))
