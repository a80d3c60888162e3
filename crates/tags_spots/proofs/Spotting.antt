-- One attribute, read once: what is told of it beside its places.
use mathlib.Core.Path.{◌≡◌, ◌∙◌}
use mathlib.Core.List.{List}
use mathlib.Core.Bool.{Bool, false}
use Prim.Native.Nat.{ℕ, ◌+◌, ◌-◌, ◌≤◌, ◌<◌}
use native.Mathlib.Omega.{arith}
use borrow.Author.Rules.{rules}
use lib.Dec.{eqb}
use lib.ListN.{take, drop}
use Rattle.cdi.specs.Lists.{any}
use Rattle.cdi.specs.Pieces.{blank, value_byte}
use Rattle.scan.specs.Spans.{of_class, Span}
use Rattle.scan.specs.declared.Class.TheVariants.{Blank, Value}
use Rattle.names.specs.Names.{attribute_number}
use Rattle.pieces_cuts.specs.Places.{part, Name, Quoted, Here}
use Rattle.pieces_cuts.proofs.Finding.{room_one}
use Rattle.pieces_attributes.proofs.Attributing.{value_cut, no_quote, value_ends, value_open, value_closed, absent, nowhere, nameless, no_equals, valueless, present, none_next, no_blank, not_next, is_next}
use Rattle.tags_spots.specs.Spots.{places_of, Tells, Refers}
use Rattle.tags_spots.specs.declared.Spot.{Spot}

-- spans of one class each are spans of that class
pub of_blanks : {s : List ℕ} {at r : ℕ} → Span blank s at r → Span (of_class Blank) s at r
unfolding of_class
of_blanks v = v

pub of_value : (q : ℕ) {s : List ℕ} {at r : ℕ} → Span (value_byte q) s at r → Span (of_class (Value q)) s at r
unfolding of_class
of_value q v = v

-- ── a value ──

module _ (s : List ℕ) (at : ℕ) where
  pub ends_here : {e : ℕ} → e ≡ at → Quoted s at at → Quoted s at e
  ends_here e v = rw e v

  pub refers_none : {e : ℕ} {r : Bool} → e ≡ at → r ≡ false → Refers s at e r
  refers_none e f = record { is = λ h. absurd (omega arith); none = λ z. f }

  pub refers_here : {n : ℕ} {r : Bool} → at + 1 ≤ n → r ≡ any (eqb 38) (take (n - (at + 1)) (drop (at + 1) s)) → Refers s at (n + 1) r
  refers_here {n} l f = let back : n + 1 - 1 ≡ n = omega arith in record { is = λ h. rw back f; none = λ z. absurd (omega arith) }

pub span_low : {p : ℕ → Bool} {s : List ℕ} {at r : ℕ} → Span p s at r → at ≤ r
span_low v = v.low

pub ruleset quotes = (ends_here, value_cut, no_quote, value_ends, value_open, value_closed, of_value, refers_none, refers_here, span_low, rules)

-- ── an attribute ──

module _ (s : List ℕ) (at : ℕ) where
  pub tells_none : {r : Spot} → r.end ≡ at → r.number ≡ 0 → r.refers ≡ false → Tells s at r
  tells_none e n f = record { number = λ z. absurd (z e); refers = λ z. absurd (z e); none = λ z. (n, f) }

  pub tells_some : {n q m e k : ℕ} {r : Bool} → Name s at n → Span blank s n q → Span blank s (q + 1) m → m + 2 ≤ e → k ≡ attribute_number (part s at n) → Refers s m e r
      → Tells s at (record { name = at; behind = n; value = m + 1; close = e - 1; end = e; number = k; refers = r })
  tells_some v b c l f w = record { number = λ z. f; refers = λ z. w.is l; none = λ z. absurd (omega (arith, v.low, b.low, c.low)) }

  pub tells_next : {m : ℕ} {r : Spot} → Span blank s at m → Here s m (places_of r) → (r.end ≡ m → ⊥) → Tells s m r → Tells s at r
  tells_next {m} {r} b h e w = record {
    number = λ z. w.number e;
    refers = λ z. w.refers e;
    none = λ z. absurd (e (omega (arith, b.low, h.ordered.name, h.ordered.behind, h.ordered.value, h.ordered.close, h.ordered.end)));
  }

pub ruleset spots = (absent, nowhere, nameless, no_equals, valueless, present, room_one, of_blanks, tells_none, tells_some, span_low, rules)

pub ruleset next_spots = (none_next, nowhere, no_blank, not_next, is_next, of_blanks, tells_none, tells_next, rules)
