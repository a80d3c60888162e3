-- The words of the ways down to a variable.
use Rattle.std.specs.Prelude.{◌≡◌, List, map, true, cond, ℕ, ◌+◌, ◌*◌, ◌/◌, ◌%◌, ◌≤◌, eqb, length, get_or, ℤ, pos}
use Rattle.cdi.specs.Faults.{Answer, fault}
use Rattle.cdi.specs.Faults.Answer.{accepted, refused}
use Rattle.cdi.specs.Walk.{Variable, Found, found, steps, variables}
use Rattle.cdi.specs.Plans.{kind_of, extra_of, items_in}
use Rattle.extent.specs.Reach.{fits_at}
use Rattle.locate_plan.specs.Judging.{good_in, items_extent}

-- a variable of a segment as an answer
unfoldable pub answer : ℕ → Variable → Answer Found
answer space v = accepted (found space v)

-- variable n of the records from i to before e, walked from address a
unfoldable pub inside_of : List ℤ → ℕ → ℕ → ℕ → ℕ → ℕ → Answer Found
inside_of t space i e a n = get_or (map (answer space) (variables (pos a) (steps i (items_in t i e)))) n (refused (fault 21 0))

-- a record and an address as one number, w, and no variable as another: the answer that it stands for
unfoldable pub standing : List ℤ → ℕ → ℕ → Answer Found
standing t space w =
    cond (eqb w 18446744073709551615) (refused (fault 21 0))
    (accepted (record { number = w % 4096; space = space; address = w / 4096; size = extra_of t (w % 4096); kind = kind_of t (w % 4096) }))

-- w stands for variable n of these records, in a segment of any space, and its record is one of the table
pub record Finds (t : List ℤ) (i e a n w : ℕ) : Type 0 where
  pub same : (space : ℕ) → standing t space w ≡ inside_of t space i e a n
  pub held : (w ≡ 18446744073709551615 → ⊥) → w % 4096 * 8 + 8 ≤ length t

-- good records, whose walk from address a keeps the limits
pub record Site (t : List ℤ) (i e a : ℕ) : Type 0 where
  pub depth : ℕ
  pub good : good_in t depth i e ≡ true
  pub keeps : fits_at a (items_extent t i e) ≡ true
