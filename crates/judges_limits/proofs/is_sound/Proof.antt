use borrow.Author.Rules.{rules}
use Rattle.rules_judge.specs.Parts.{is_limit}
use Rattle.judges_limits.proofs.is_sound.Statement.{statement}
use Rattle.judges_limits.proofs.is_sound.Tie as tie

pub is_sound_spec : {M : Type 1} → statement M
unfolding is_limit
is_sound_spec =
    tie.close (tie.spec
    (λ c. search rules))
