-- The state of parsing, as plain numbers, and what it stands for.
use Rattle.std.specs.Prelude.{ℕ, ◌≤◌}
use Rattle.rules_judge.specs.declared.Said.{Said}
use Rattle.judges_state.specs.Decoded.{judge_of, Placed}
use Rattle.judges_state.specs.Steps.{leaf_by}
use Rattle.tallies_state.specs.Flat.{tally_of, Kept}
use Rattle.parse_sums.specs.declared.State.{State as Summed}
use Rattle.parse_state.specs.declared.State.{State}

unfoldable pub state_of : State → Summed
state_of st = record { judge = judge_of st.judge; tally = tally_of st.tally; root = st.tally.root }

-- what holds of every state that is met
pub record Fits (st : State) : Type 0 where
  pub placed : Placed st.judge
  pub kept : Kept st.tally
  pub few : st.tally.records ≤ 4096

-- the state behind a plain leaf
unfoldable pub leaf_of : Summed → ℕ → ℕ → ℕ → Said → Summed
leaf_of st p child entry said = record { judge = leaf_by st.judge p child entry said; tally = st.tally; root = st.root }
