-- A text that was read lies in the window.
use mathlib.Core.Path.{◌≡◌, subst}
use mathlib.Core.List.{List}
use mathlib.Core.Bool.{Bool}
use Prim.Native.Nat.{ℕ, ◌≤◌}
use borrow.Author.Rules.{rules}
use lib.ListN.{length}
use Rattle.std.specs.Prelude.{Result, Ok}
use Rattle.refusals.specs.declared.Refusal.{Refusal}
use Rattle.access_reading.specs.Told.{ReadAt}
use Rattle.access_reading.specs.declared.Reading.{Reading}
use Rattle.access_reading.specs.declared.Reading.TheVariants.{Text}

module _ (at : ℕ) (bytes : List ℕ) (r : Result Reading Refusal) (i j : ℕ) (f : Bool) (h : ReadAt at bytes r) (e : r ≡ Ok (Text i j f)) where
  place : ReadAt at bytes (Ok (Text i j f))
  place = subst (λ (x : Result Reading Refusal). ReadAt at bytes x) e h

  pub text_begins : i ≤ j
  unfolding ReadAt
  text_begins = place.1

  pub text_ends : j ≤ length bytes
  unfolding ReadAt
  text_ends = place.2

pub ruleset within = (text_begins, text_ends, rules)
