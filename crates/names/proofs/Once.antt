-- Each contract allows one answer: any two answers that it allows are equal.
use mathlib.Core.Path.{◌≡◌, sym, ◌∙◌}
use mathlib.Core.List.{List}
use Prim.Native.Nat.{ℕ}
use Rattle.names.specs.Names.{element_number, attribute_number}

pub element_number_once : (n : List ℕ) {q r : ℕ} → q ≡ element_number n → r ≡ element_number n → q ≡ r
element_number_once n e f = e ∙ sym f

pub attribute_number_once : (n : List ℕ) {q r : ℕ} → q ≡ attribute_number n → r ≡ attribute_number n → q ≡ r
attribute_number_once n e f = e ∙ sym f
