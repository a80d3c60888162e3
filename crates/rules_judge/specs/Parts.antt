-- What the parts of the judge answer, by numbers of elements and kinds of pieces.
use Rattle.std.specs.Prelude.{List, [], Bool, cond, not, ◌&&◌, ◌||◌, ℕ, max, eqb, leb}
use Rattle.cdi.specs.Lists.{is_empty}
use Rattle.cdi.specs.Faults.{Fault, unless}
use Rattle.cdi.specs.Pieces.{Attribute}
use Rattle.cdi.specs.Rules.{missing_child}
use Rattle.rules_judge.specs.declared.Said.{Said}
use Rattle.rules_judge.specs.declared.Said.TheVariants.{No}
use Rattle.rules_judge.specs.declared.Judge.{Judge}
use Rattle.rules_judge.specs.Judging.{Least, said_faults, is_value, bound_blame, bounding}

-- the numbers of min, max, default and property
unfoldable pub is_numeric : ℕ → Bool
is_numeric k = leb 19 k && leb k 22

unfoldable pub is_limit : ℕ → Bool
is_limit k = eqb k 19 || eqb k 20

unfoldable pub missing_by : ℕ → ℕ → Bool → Bool → List Fault
missing_by p k one two = unless (not (eqb k 11) || (one && two)) (missing_child p)

unfoldable pub number_by : ℕ → Bool → ℕ → Said → List Fault
number_by p numeric k said = cond (numeric && is_numeric k) (said_faults p said) []

unfoldable pub int_by : ℕ → ℕ → ℕ → Judge → List Fault
int_by p k n i = cond (eqb k 6 && (leb 1 n && i.sound)) (bound_blame p n i.low i.high) []

unfoldable pub limit_sound : ℕ → Bool → List Attribute → Said → Bool
limit_sound k turn s said = not (is_limit k) || (turn && (is_empty s && is_value said))

-- the judge of an element that it has left a child k of, which stands at p and has the entry e
unfoldable pub left_of : Judge → ℕ → ℕ → ℕ → Said → Least → Bool → Judge
left_of j p k e said least sound =
    record {
      least = least;
      row = j.row;
      numeric = j.numeric;
      last = max j.last e;
      one = j.one || eqb e 1;
      two = j.two || eqb e 2;
      said = No;
      low = bounding (eqb k 19) j.low p said;
      high = bounding (eqb k 20) j.high p said;
      sound = sound;
    }
