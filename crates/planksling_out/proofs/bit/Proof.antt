use borrow.Author.Rules.{rules}
use Rattle.planksling_out.specs.Readings.{bit_of}
use Rattle.planksling_out.proofs.bit.Statement.{statement}
use Rattle.planksling_out.proofs.bit.Tie as tie

pub bit_spec : {M : Type 1} → statement M
unfolding bit_of
bit_spec =
    tie.close (tie.spec
    (λ c. search rules)
    (λ c. search rules))
