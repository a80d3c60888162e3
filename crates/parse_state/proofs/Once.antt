-- The contracts determine what the numbers mean: any two states that a contract allows have the same meaning. The rows of `leave` have an equation.
use mathlib.Core.Path.{◌≡◌, sym, ◌∙◌}
use Rattle.parse_sums.specs.declared.State.{State as Summed}
use Rattle.parse_state.specs.declared.State.{State}
use Rattle.parse_state.specs.States.{state_of}

-- of parse_state::start, parse_state::enter, parse_state::with_run, parse_state::with_rare, parse_state::with_leaf, parse_state::leave
pub state_once : (x : Summed) (q r : State) → state_of q ≡ x → state_of r ≡ x → state_of q ≡ state_of r
state_once x q r e f = e ∙ sym f
