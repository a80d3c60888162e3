-- Codes: good, or the number of a fault.
use mathlib.Core.List.{List, map}
use mathlib.Core.Bool.{Bool, true, false, cond}
use mathlib.Core.Option.{Option, none, some}
use Prim.Native.Nat.{ℕ, ◌≤◌}
use native.Mathlib.Omega.{arith}
use lib.IntN.{ℤ, pos}
use lib.Signed.{lt_z}
use Rattle.cdi.specs.Lists.{ascii, given, same, among}
use Rattle.cdi.specs.Pieces.{Attribute}
use Rattle.cdi.specs.Numbers.{trimmed, number, within}
use Rattle.cdi.specs.Rows.{Form, fixed, range, size, formatting}
use Rattle.cdi.specs.Rules.{is_formatting}
use Rattle.rules_judge.specs.Tables.{form_of}
use Rattle.tags_values.specs.Codes.{range_code, form_code, rule_for, code_of, numbered, code_in}

-- a range's code is good, or 9 or 10
pub range_code_law : (lo hi : ℤ) (o : Option ℤ) → (1 ≤ range_code lo hi o) × (range_code lo hi o ≤ 10)
unfolding range_code
range_code_law lo hi none = (omega arith, omega arith)
range_code_law lo hi (some z) = by (within lo hi z) (lt_z z (pos 0))
  where
    by : (b c : Bool) → (1 ≤ cond b (cond c 2 1) 10) × (cond b (cond c 2 1) 10 ≤ 10)
    by true true = (omega arith, omega arith)
    by true false = (omega arith, omega arith)
    by false c = (omega arith, omega arith)

-- a code is good, or the number of a fault: none is 0, and none above 87
pub form_codes : (f : Form) (v : List ℕ) → (1 ≤ form_code f v) × (form_code f v ≤ 87)
unfolding form_code
form_codes f v = by f
  where
    test : (b : Bool) (n : ℕ) → 1 ≤ n → n ≤ 87 → (1 ≤ cond b 1 n) × (cond b 1 n ≤ 87)
    test true n h k = (omega arith, omega arith)
    test false n h k = (h, k)

    by : (f : Form) → (1 ≤ form_code f v) × (form_code f v ≤ 87)
    by (fixed t) = test (same v (ascii t)) 87 (omega arith) (omega arith)
    by (range lo hi) = let c = range_code_law lo hi (number v) in (c.0, omega (arith, c.1))
    by (size ts) = test (among (trimmed v) (map ascii ts)) 10 (omega arith) (omega arith)
    by formatting = test (is_formatting v) 87 (omega arith) (omega arith)

pub code_there : (a : ℕ) (v : List ℕ) → 1 ≤ code_of a v
unfolding code_of
code_there a v = (form_codes (form_of (rule_for a)) v).0

pub code_high : (a : ℕ) (s : List Attribute) → code_in a s ≤ 87
unfolding code_in code_of
code_high a s = by (numbered a s)
  where
    by : (o : Option (List ℕ)) → given o 0 (form_code (form_of (rule_for a))) ≤ 87
    by none = omega arith
    by (some v) = (form_codes (form_of (rule_for a)) v).1
