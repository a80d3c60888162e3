-- The contract allows one answer: any two answers that it allows are equal.
use mathlib.Core.Path.{◌≡◌, sym, ◌∙◌}
use mathlib.Core.List.{List}
use mathlib.Core.Bool.{Bool}
use Prim.Native.Nat.{ℕ}
use Rattle.cdi.specs.Rules.{is_formatting}

pub is_formatting_once : (s : List ℕ) {q r : Bool} → q ≡ is_formatting s → r ≡ is_formatting s → q ≡ r
is_formatting_once s e f = e ∙ sym f
