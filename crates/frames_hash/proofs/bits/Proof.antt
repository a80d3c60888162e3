use Rattle.std.proofs.Common.{arith, rules}
use Rattle.frames_hash.proofs.Hashing.{bits_are}
use Rattle.frames_hash.proofs.bits.Statement.{statement}
use Rattle.frames_hash.proofs.bits.Tie as tie

pub bits_spec : {M : Type 1} → statement M
bits_spec =
    tie.close (tie.spec
    (λ c κs. search rules)
    (λ c κs. search rules)
    (λ c κs. search rules)
    (λ c.
    let z = c.before.before.before.args.z in
    let up = c.before.before.rise.result in
    let down = c.before.fall.result in
    bits_are z c.wrapping_sub_u64.result up down (omega arith) (search rules) (search rules) (search rules) (omega arith) (search rules)))
