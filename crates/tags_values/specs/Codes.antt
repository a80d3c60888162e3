-- What an attribute's value is by the attribute's number: a code, and the amount that it says.
use Rattle.std.specs.Prelude.{◌≡◌, List, [], ◌∷◌, map, Bool, cond, ◌||◌, ℕ, ◌≤◌, eqb, ltb, get_or, ℤ, pos, neg_ℤ, nat_abs}
use Rattle.std.proofs.Math.Option.{Option, none, some}
use Rattle.std.specs.Int.Signed.{lt_z}
use Rattle.cdi.specs.Lists.{ascii, given, same, among}
use Rattle.cdi.specs.Faults.{Fault, fault}
use Rattle.cdi.specs.Pieces.{Attribute}
use Rattle.cdi.specs.Numbers.{trimmed, number, within}
use Rattle.cdi.specs.Rows.{Form, fixed, range, size, formatting}
use Rattle.cdi.specs.Rules.{is_formatting}
use Rattle.names.specs.Names.{attribute_number}
use Rattle.rules_judge.specs.Tables.{form_of}

-- ── codes ──

-- a number against a range: 1 where it lies in it, 2 where it lies in it below zero, 9 for no number, 10 outside
unfoldable pub range_code : ℤ → ℤ → Option ℤ → ℕ
range_code lo hi none = 9
range_code lo hi (some z) = cond (within lo hi z) (cond (lt_z z (pos 0)) 2 1) 10

-- a value against a form: 1 or 2 where it is as it must be, else the number of its fault
unfoldable pub form_code : Form → List ℕ → ℕ
form_code (fixed t) v = cond (same v (ascii t)) 1 87
form_code (range lo hi) v = range_code lo hi (number v)
form_code (size ts) v = cond (among (trimmed v) (map ascii ts)) 1 10
form_code formatting v = cond (is_formatting v) 1 87

-- the faults that a code stands for, at a place
unfoldable pub code_faults : ℕ → ℕ → List Fault
code_faults p c = cond (ltb c 3) [] (fault c p ∷ [])

-- ── amounts ──

-- the size of a number that lies in a range, else what stands for it
unfoldable pub range_amount : ℕ → ℤ → ℤ → Option ℤ → ℕ
range_amount d lo hi none = d
range_amount d lo hi (some z) = cond (within lo hi z) (nat_abs z) d

-- ── by the attribute's number ──

-- the attributes whose values are texts; the others' are numbers
unfoldable pub textual : ℕ → Bool
textual a = ltb a 3 || eqb a 10

-- what stands for a number that is missing, and the ends of the ranges
unfoldable pub amount_for : ℕ → ℕ
amount_for a = cond (eqb a 7) 1 (cond (eqb a 9) 1 0)

unfoldable pub low_at : ℕ → ℤ
low_at a = cond (eqb a 8) (neg_ℤ (pos 2147483648)) (pos (amount_for a))

unfoldable pub high_at : ℕ → ℤ
high_at a = cond (ltb a 6) (pos 255) (cond (eqb a 9) (pos 65535) (pos 2147483647))

-- the rule that a value is held against: a size is held against that of a string
unfoldable pub rule_for : ℕ → ℕ
rule_for a = cond (eqb a 10) 12 a

unfoldable pub code_of : ℕ → List ℕ → ℕ
code_of a v = form_code (form_of (rule_for a)) v

unfoldable pub amount_of : ℕ → List ℕ → ℕ
amount_of a v = cond (textual a) (amount_for a) (range_amount (amount_for a) (low_at a) (high_at a) (number v))

-- ── in a tag ──

-- the value of the first attribute of that number
unfoldable pub numbered : ℕ → List Attribute → Option (List ℕ)
numbered a [] = none
numbered a (x ∷ s) = let r = numbered a s in cond (eqb (attribute_number x.name) a) (some x.value) r

-- its code, which is 0 where there is none, and its amount
unfoldable pub code_in : ℕ → List Attribute → ℕ
code_in a s = given (numbered a s) 0 (code_of a)

unfoldable pub amount_in : ℕ → List Attribute → ℕ
amount_in a s = given (numbered a s) (amount_for a) (amount_of a)

-- the cells hold the codes and the amounts of a tag's attributes
pub record Celled (codes amounts : List ℕ) (s : List Attribute) : Type 0 where
  pub code : (a : ℕ) → 1 ≤ a → a ≤ 10 → get_or codes a 0 ≡ code_in a s
  pub amount : (a : ℕ) → 1 ≤ a → a ≤ 10 → get_or amounts a 0 ≡ amount_in a s

unfoldable pub codes_page : Unit {0}
unfolding range_code form_code code_faults range_amount textual low_at high_at amount_for rule_for code_of amount_of numbered code_in amount_in
codes_page = tt
