-- An element's name that is known, and the largest number.
use mathlib.Core.Path.{◌≡◌}
use mathlib.Core.List.{List}
use Prim.Native.Nat.{ℕ, ◌≤◌}
use native.Mathlib.Omega.{arith}
use borrow.Author.Rules.{rules}
use Rattle.names.specs.Names.{element_number}
use Rattle.names.proofs.Positions.{element_high}
use Rattle.pieces_cuts.specs.Places.{part, Name}
use Rattle.naming_words.specs.Whole.{Known}
use Rattle.naming_words.proofs.Known.{told}

pub high : (n : List ℕ) {k : ℕ} → k ≡ element_number n → k ≤ 23
high n e = omega (arith, element_high n)

module _ {k : ℕ} {s : List ℕ} {at r : ℕ} (v : Known element_number k s at r) (z : r ≡ 0 → ⊥) where
  pub known_name : Name s at r
  known_name = (told v z).0

  pub known_number : k ≡ element_number (part s at r)
  known_number = (told v z).1

  pub known_high : k ≤ 23
  known_high = high _ known_number

pub ruleset looked_up = (high, rules)

pub ruleset compared = (known_name, known_number, known_high)
