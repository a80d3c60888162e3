-- Each contract allows one answer: any two answers that it allows are equal.
use mathlib.Core.Path.{◌≡◌, sym, ◌∙◌}
use mathlib.Core.Bool.{Bool}
use Prim.Native.Nat.{ℕ}
use lib.Dec.{eqb}
use Rattle.rules_judge.specs.Tables.{entry_at, many_at, in_turn}

pub entry_once : (row child : ℕ) {q r : ℕ} → q ≡ entry_at row child → r ≡ entry_at row child → q ≡ r
entry_once row child e f = e ∙ sym f

pub turn_once : (row last entry : ℕ) {q r : Bool} → q ≡ in_turn last entry (eqb entry (many_at row)) → r ≡ in_turn last entry (eqb entry (many_at row)) → q ≡ r
turn_once row last entry e f = e ∙ sym f
