-- A name that is known by one comparison: the law of each word, whatever numbers the names.
use mathlib.Core.Path.{◌≡◌, refl, sym, ap, ◌∙◌}
use mathlib.Core.List.{List}
use mathlib.Core.Bool.{true}
use mathlib.Core.Logic.{⊎_elim}
use Prim.Native.Nat.{ℕ, ◌≤◌}
use borrow.Author.Rules.{rules}
use lib.ListN.{length}
use Rattle.scan.proofs.Tests.{eq_or_ne}
use Rattle.pieces_cuts.specs.Places.{part, Name}
use Rattle.naming_words.specs.Whole.{word_end, is_name, Known, nothing, found}
use Rattle.naming_words.proofs.Whole.{whole, whole_part, whole_name}

pub unknown : (f : List ℕ → ℕ) (k : ℕ) (s : List ℕ) (at : ℕ) → Known f k s at 0
unknown f k s at = nothing refl

-- word w has the number j
pub known : (f : List ℕ → ℕ) {k : ℕ} (j : ℕ) (w : List ℕ) {s : List ℕ} {at r : ℕ} → k ≡ j → is_name w ≡ true → f w ≡ j → at ≤ length s → r ≡ word_end w s at → Known f k s at r
known f {k} j w {s} {at} {r} e i n h g = ⊎_elim nothing there (eq_or_ne r 0)
  where
    there : (r ≡ 0 → ⊥) → Known f k s at r
    there z = let v = whole w s at g z in found (whole_name w v i h) (e ∙ sym n ∙ ap f (sym (whole_part w v)))

pub ruleset words = (unknown, known, rules)

-- what is known where a place was answered
pub told : {f : List ℕ → ℕ} {k : ℕ} {s : List ℕ} {at r : ℕ} → Known f k s at r → (r ≡ 0 → ⊥) → Name s at r × (k ≡ f (part s at r))
told (nothing e) z = absurd (z e)
told (found n e) z = (n, e)
