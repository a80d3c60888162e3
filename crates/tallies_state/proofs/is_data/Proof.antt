use mathlib.Core.Path.{refl}
use Rattle.cdi.specs.Lists.{between}
use Rattle.tally_tag.specs.Numbered.{data_at}
use Rattle.tallies_state.proofs.is_data.Statement.{statement}
use Rattle.tallies_state.proofs.is_data.Tie as tie

pub is_data_spec : {M : Type 1} → statement M
unfolding data_at between
is_data_spec =
    tie.close (tie.spec
    (λ c. refl))
