-- Each contract allows one answer: any two answers that it allows are equal.
use mathlib.Core.Path.{◌≡◌, sym, ◌∙◌}
use mathlib.Core.List.{List}
use mathlib.Core.Bool.{Bool}
use Prim.Native.Nat.{ℕ}
use Rattle.cdi.specs.Numbers.{number}
use Rattle.numbers.specs.Held.{held, number_of}
use Rattle.numbers.specs.declared.Signed.{Signed}
use Rattle.std.specs.Prelude.{Option}

pub with_sign_once : (negative : Bool) (magnitude : ℕ) {q r : Signed} → q ≡ held negative magnitude → r ≡ held negative magnitude → q ≡ r
with_sign_once negative magnitude e f = e ∙ sym f

pub read_number_once : (s : List ℕ) {q r : Option Signed} → q ≡ number_of (number s) → r ≡ number_of (number s) → q ≡ r
read_number_once s e f = e ∙ sym f
