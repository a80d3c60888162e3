-- Each contract allows one answer: any two answers that it allows are equal.
use mathlib.Core.Path.{◌≡◌, sym, ap, ◌∙◌}
use mathlib.Core.List.{List}
use Prim.Native.Nat.{ℕ}
use Rattle.pieces_cuts.specs.Places.{part, Name}
use Rattle.pieces_cuts.proofs.Once.{name_end_once}
use Rattle.naming_words.specs.Whole.{word_end}
use Rattle.naming_words.specs.declared.Named.{Named}

pub word_end_once : (w s : List ℕ) (at : ℕ) {q r : ℕ} → q ≡ word_end w s at → r ≡ word_end w s at → q ≡ r
word_end_once w s at e f = e ∙ sym f

abbrev named : ℕ → ℕ → Named
named n b = record { number = n; behind = b }

-- the name at a place with its number, whatever numbers the names
pub named_once : (f : List ℕ → ℕ) {s : List ℕ} {at : ℕ} {q r : Named} → Name s at q.behind → q.number ≡ f (part s at q.behind)
    → Name s at r.behind → r.number ≡ f (part s at r.behind) → q ≡ r
named_once f {s} {at} {q} {r} v e w g =
    let behind : q.behind ≡ r.behind = name_end_once v w in
    ap (λ n. named n q.behind) (e ∙ ap (λ b. f (part s at b)) behind ∙ sym g) ∙ ap (named r.number) behind
