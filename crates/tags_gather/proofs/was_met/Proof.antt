use borrow.Author.Rules.{rules}
use Rattle.tags_gather.proofs.Gathering.{met}
use Rattle.tags_gather.proofs.was_met.Statement.{statement}
use Rattle.tags_gather.proofs.was_met.Tie as tie

pub was_met_spec : {M : Type 1} → statement M
was_met_spec =
    tie.close (tie.spec
    (λ c κs. search rules)
    (λ c. search rules)
    (λ c. search (met, rules)))
