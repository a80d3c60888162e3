use Rattle.std.proofs.Common.{rules}
use Rattle.frames_hash.proofs.Hashing.{prime_times}
use Rattle.frames_hash.proofs.times_prime.Statement.{statement}
use Rattle.frames_hash.proofs.times_prime.Tie as tie

pub times_prime_spec : {M : Type 1} → statement M
times_prime_spec =
    tie.close (tie.spec
    (λ c. search rules)
    (λ c. search rules)
    (λ c. search rules)
    (λ c. search rules)
    (λ c κs. search rules)
    (λ c κs. search rules)
    (λ c. search (prime_times, rules)))
