use mathlib.Core.Path.{refl}
use borrow.Author.Rules.{rules}
use Rattle.rules_judge.specs.Octal.{digit_at}
use Rattle.judges_tables.proofs.digit.Statement.{statement}
use Rattle.judges_tables.proofs.digit.Tie as tie

pub digit_spec : {M : Type 1} → statement M
unfolding digit_at
digit_spec =
    tie.close (tie.spec
    (λ c. search rules)
    (λ c. search rules)
    (λ c. refl))
