-- The faults that stand at the names of a tag's attributes, by the codes of their values.
use Rattle.std.specs.Prelude.{List, Bool, false, cond, ◌||◌, ℕ, eqb, get_or}

-- a text of cdi or of a float is wrong
unfoldable pub texts_by : ℕ → List ℕ → Bool
texts_by e codes = cond (eqb e 1) (eqb (get_or codes 1 0) 87 || eqb (get_or codes 2 0) 87) (cond (eqb e 9) (eqb (get_or codes 10 0) 87) false)

-- the number of one attribute's fault
unfoldable pub name_by : Bool → ℕ → ℕ
name_by known code = cond known (cond (eqb code 87) 87 0) 85
