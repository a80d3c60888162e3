-- One scanning law over any test: the loop, and what a span says of the bytes that it passes.
use mathlib.Core.Path.{◌≡◌, refl, sym, ap, subst, ◌∙◌}
use mathlib.Core.List.{List, [], ◌∷◌}
use mathlib.Core.Bool.{Bool, true, false, cond, ◌&&◌}
use mathlib.Core.Logic.{◌⊎◌, inl, inr, ⊎_elim}
use Prim.Native.Nat.{ℕ, ◌+◌, ◌-◌, ◌≤◌, ◌<◌}
use native.Mathlib.Nat.{add-zero}
use native.Mathlib.Omega.{arith}
use borrow.Author.Rules.{rules}
use borrow.Author.Tests.{eq-eqb, ne_eqb}
use lib.Dec.{eqb}
use lib.ListN.{length, take, drop, get_or, drop_of_length-le, length-drop}
use lib.Seq.{drop-drop}
use Rattle.cdi.specs.Lists.{all, while, after}
use Rattle.scan.specs.Spans.{span_end, Span}
use Rattle.scan.proofs.Along.{drop_next, part}

-- all up to i pass
pub record Spanning (p : ℕ → Bool) (s : List ℕ) (at i : ℕ) : Type 0 where
  pub left : span_end p s at ≡ span_end p s i
  pub low : at ≤ i
  pub high : i ≤ length s

pub start : (p : ℕ → Bool) (s : List ℕ) (at : ℕ) → at ≤ length s → Spanning p s at at
start p s at h = record { left = refl; low = omega arith; high = h }

module _ {p : ℕ → Bool} {s : List ℕ} {at i : ℕ} (v : Spanning p s at i) where
  ends : span_end p s i ≡ i → Span p s at i
  ends e = record { is = sym (v.left ∙ e); low = v.low; high = v.high }

  pub out : length s ≤ i → Span p s at i
  unfolding span_end while
  out h = ends (rw (drop_of_length-le s h) (add-zero i))

  pub out_whole : length s ≤ i → Span p s at (length s)
  out_whole h = let e : i ≡ length s = omega (arith, v.high) in subst (Span p s at) e (out h)

  module _ {r : Bool} (h : i < length s) (e : r ≡ p (get_or s i 0)) where
    pub stops : r ≡ false → Span p s at i
    unfolding span_end while
    stops f = ends (rw (drop_next s i h, ← e, f) (add-zero i))

    pub goes : r ≡ true → Spanning p s at (i + 1)
    unfolding span_end while
    goes f = record { left = v.left ∙ rw (drop_next s i h, ← e, f) (omega arith); low = omega (arith, v.low); high = omega arith }

-- ── what a span says ──

while_after : (p : ℕ → Bool) (s : List ℕ) → (while p s ≡ take (length (while p s)) s) × (after p s ≡ drop (length (while p s)) s)
unfolding while after
while_after p [] = (refl, refl)
while_after p (x ∷ s) = by (p x) (while_after p s)
  where
    by : (t : Bool) → (while p s ≡ take (length (while p s)) s) × (after p s ≡ drop (length (while p s)) s)
        → (cond t (x ∷ while p s) [] ≡ take (length (cond t (x ∷ while p s) [])) (x ∷ s)) × (cond t (after p s) (x ∷ s) ≡ drop (length (cond t (x ∷ while p s) [])) (x ∷ s))
    by true h = (ap (λ l. x ∷ l) h.0, h.1)
    by false h = (refl, refl)

-- what follows begins with a byte that does not pass
after_stop : (p : ℕ → Bool) (s : List ℕ) {x : ℕ} {t : List ℕ} → after p s ≡ x ∷ t → p x ≡ false
unfolding after
after_stop p [] e = cc
after_stop p (y ∷ s) {x} {t} e = by (p y) refl (λ f. after_stop p s f) e
  where
    by : (b : Bool) → p y ≡ b → (after p s ≡ x ∷ t → p x ≡ false) → cond b (after p s) (y ∷ s) ≡ x ∷ t → p x ≡ false
    by true f g e = g e
    by false f g e = let z : y ≡ x = cc in rw (← z) f

-- all pass, or fewer than all do
wholly : (p : ℕ → Bool) (s : List ℕ) → ((all p s ≡ true) × (length (while p s) ≡ length s)) ⊎ ((all p s ≡ false) × (length (while p s) < length s))
unfolding while all
wholly p [] = inl (refl, refl)
wholly p (x ∷ s) = by (p x) (wholly p s)
  where
    by : (t : Bool) → ((all p s ≡ true) × (length (while p s) ≡ length s)) ⊎ ((all p s ≡ false) × (length (while p s) < length s))
        → (((t && all p s) ≡ true) × (length (cond t (x ∷ while p s) []) ≡ length (x ∷ s))) ⊎ (((t && all p s) ≡ false) × (length (cond t (x ∷ while p s) []) < length (x ∷ s)))
    by true (inl h) = inl (h.0, omega (arith, h.1))
    by true (inr h) = inr (h.0, omega (arith, h.1))
    by false h = inr (refl, omega arith)

module _ {p : ℕ → Bool} {s : List ℕ} {at r : ℕ} (v : Span p s at r) where
  passed : length (while p (drop at s)) ≡ r - at
  unfolding span_end
  passed = omega (arith, v.is)

  -- the bytes that pass
  pub span_here : while p (drop at s) ≡ part s at r
  span_here = (while_after p (drop at s)).0 ∙ ap (λ k. take k (drop at s)) passed

  -- what follows them
  pub span_rest : after p (drop at s) ≡ drop r s
  span_rest =
      let e : at + (r - at) ≡ r = omega (arith, v.low) in
      (while_after p (drop at s)).1 ∙ ap (λ k. drop k (drop at s)) passed ∙ drop-drop (r - at) at s ∙ ap (λ k. drop k s) e

  -- whether the span reaches the end
  pub span_all : eqb r (length s) ≡ all p (drop at s)
  unfolding span_end
  span_all = ⊎_elim
      (λ (h : (all p (drop at s) ≡ true) × (length (while p (drop at s)) ≡ length (drop at s))).
      eq-eqb r (length s) (omega (arith, v.is, h.1, length-drop at s, v.low, v.high)) ∙ sym h.0)
      (λ (h : (all p (drop at s) ≡ false) × (length (while p (drop at s)) < length (drop at s))).
      ne_eqb r (length s) (λ e. omega (arith, v.is, h.1, length-drop at s, v.low, v.high)) ∙ sym h.0)
      (wholly p (drop at s))

  -- the byte at which it ends
  pub span_stop : r < length s → p (get_or s r 0) ≡ false
  span_stop h = after_stop p (drop at s) (span_rest ∙ drop_next s r h)

-- a span has one end
pub one_end : {p : ℕ → Bool} {s : List ℕ} {at r q : ℕ} → Span p s at r → Span p s at q → r ≡ q
one_end v w = v.is ∙ sym w.is
