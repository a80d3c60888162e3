use mathlib.Core.Path.{refl}
use Rattle.tally_tag.specs.Numbered.{segment_at}
use Rattle.tallies_state.proofs.is_segment.Statement.{statement}
use Rattle.tallies_state.proofs.is_segment.Tie as tie

pub is_segment_spec : {M : Type 1} → statement M
unfolding segment_at
is_segment_spec =
    tie.close (tie.spec
    (λ c. refl))
