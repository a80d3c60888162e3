use borrow.Author.Rules.{rules}
use Rattle.tallies_state.proofs.Entering.{or_calls}
use Rattle.tally_tag.specs.Numbered.{recorded_by}
use Rattle.tallies_state.proofs.is_recorded.Statement.{statement}
use Rattle.tallies_state.proofs.is_recorded.Tie as tie

pub is_recorded_spec : {M : Type 1} → statement M
unfolding recorded_by
is_recorded_spec =
    tie.close (tie.spec
    (λ c κs. search rules)
    (λ c κs. search rules)
    (λ c. search or_calls))
