-- What the numbers of a judge mean.
use Rattle.std.specs.Prelude.{Bool, cond, ℕ, ◌≤◌, eqb}
use Rattle.keys.specs.Keys.{fault_in}
use Rattle.rules_judge.specs.declared.Said.{Said}
use Rattle.rules_judge.specs.declared.Said.TheVariants.{Silent, No, Large, Value}
use Rattle.rules_judge.specs.declared.Bound.{Bound}
use Rattle.rules_judge.specs.declared.Judge.{Judge as Known}
use Rattle.rules_judge.specs.Judging.{Least, to_least}
use Rattle.judges_state.specs.declared.Judge.{Judge}

-- the least fault by its key
unfoldable pub least_in : ℕ → Least
least_in k = to_least (fault_in k)

-- what was said: 0 nothing yet, 1 no number, 2 one out of range, 3 one of that magnitude, 4 a negative one
unfoldable pub said_of : ℕ → ℕ → Said
said_of said m = cond (eqb said 0) Silent (cond (eqb said 1) No (cond (eqb said 2) Large (Value (record { negative = eqb said 4; magnitude = m }))))

-- a bound of an int: whether it is there, its place, its sign and magnitude
abbrev pub bound_of : Bool → ℕ → Bool → ℕ → Bound
bound_of there place negative m = record { there = there; place = place; value = record { negative = negative; magnitude = m } }

-- what is known of an element
unfoldable pub judge_of : Judge → Known
judge_of j =
    record {
      least = least_in j.least;
      row = j.row;
      numeric = j.numeric;
      last = j.last;
      one = j.one;
      two = j.two;
      said = said_of j.said j.magnitude;
      low = bound_of j.has_low j.low j.low_negative j.smallest;
      high = bound_of j.has_high j.high j.high_negative j.largest;
      sound = j.sound;
    }

-- the places of the bounds lie in the content
pub record Placed (j : Judge) : Type 0 where
  pub low : j.low ≤ 65535
  pub high : j.high ≤ 65535
