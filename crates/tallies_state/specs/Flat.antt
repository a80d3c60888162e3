-- What the flat tally stands for.
use Rattle.std.specs.Prelude.{Some, None, cond, ℕ, ◌≤◌, eqb}
use Rattle.extent.specs.Reach.{Small}
use Rattle.tally_tag.specs.Tallying.{Leaves}
use Rattle.tally_tag.specs.declared.Tally.{Tally as Known}
use Rattle.tallies_state.specs.declared.Tally.{Tally}

-- the first segment that leaves the addresses, by its place; the largest number stands for none
unfoldable pub leaves_of : ℕ → Leaves
leaves_of p = cond (eqb p 18446744073709551615) None (Some p)

-- what is known of the walk; the root's place is no part of it
unfoldable pub tally_of : Tally → Known
tally_of g = record { extent = g.extent; level = g.level; records = g.records; total = g.total; leaves = leaves_of g.leaves }

-- a tally whose numbers are those that the code holds
pub record Kept (g : Tally) : Type 0 where
  pub extent : Small g.extent
  pub total : g.total ≤ 1000001
