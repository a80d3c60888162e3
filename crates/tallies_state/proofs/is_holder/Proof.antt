use borrow.Author.Rules.{rules}
use Rattle.tallies_state.proofs.Entering.{or_call}
use Rattle.tally_tag.specs.Numbered.{group_at}
use Rattle.tallies_state.proofs.is_holder.Statement.{statement}
use Rattle.tallies_state.proofs.is_holder.Tie as tie

pub is_holder_spec : {M : Type 1} → statement M
unfolding group_at
is_holder_spec =
    tie.close (tie.spec
    (λ c κs. search rules)
    (λ c. search or_call))
