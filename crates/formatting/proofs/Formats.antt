-- The pattern of `formatting`, by each way through the code.
use mathlib.Core.Path.{◌≡◌, refl, sym, ap, ◌∙◌}
use mathlib.Core.List.{List, [], ◌∷◌}
use mathlib.Core.Bool.{Bool, true, false, ◌&&◌}
use mathlib.Core.Option.{none, some}
use Prim.Native.Nat.{ℕ, ◌-◌}
use borrow.Author.Rules.{rules}
use borrow.Author.Tests.{eq-eqb, ne_eqb, eqb-true, eqb-false}
use lib.Dec.{eqb}
use lib.Pointwise.{pointwise}
use Rattle.cdi.proofs.Quiet.{impossible}
use lib.ListN.{length, take, drop}
use Rattle.cdi.specs.Lists.{same, after, strip, begins}
use Rattle.cdi.specs.Pieces.{digit}
use Rattle.cdi.specs.Rules.{is_formatting}
use Rattle.scan.specs.Spans.{of_class, Span}
use Rattle.scan.specs.declared.Class.TheVariants.{Decimal}
use Rattle.scan.proofs.Along.{rest}
use Rattle.scan.proofs.Spans.{span_rest}
use Rattle.formatting.specs.Formatting.{is_fraction}

-- one byte at the front, and what follows it
module _ (x : ℕ) where
  strip_other : (s : List ℕ) → pointwise eqb (take 1 s) (x ∷ []) ≡ false → strip (x ∷ []) s ≡ none
  unfolding strip begins
  strip_other [] e = refl
  strip_other (b ∷ s) e = by (eqb b x) refl e
    where
      by : (t : Bool) → eqb b x ≡ t → (t && true) ≡ false → strip (x ∷ []) (b ∷ s) ≡ none
      by true f g = impossible (cc)
      by false f g = rw (ne_eqb x b (λ k. eqb-false b x f (sym k)))

  strip_byte : (s : List ℕ) → pointwise eqb (take 1 s) (x ∷ []) ≡ true → strip (x ∷ []) s ≡ some (drop 1 s)
  unfolding strip begins
  strip_byte [] e = impossible (cc)
  strip_byte (b ∷ s) e = by (eqb b x) refl e
    where
      by : (t : Bool) → eqb b x ≡ t → (t && true) ≡ true → strip (x ∷ []) (b ∷ s) ≡ some (drop 1 (b ∷ s))
      by true f g = rw (eq-eqb x b (sym (eqb-true b x f)))
      by false f g = impossible (cc)

-- what stands behind the digits from a place on
behind : (s : List ℕ) (at : ℕ) {e : ℕ} → Span (of_class Decimal) s at e → take (length s - e) (drop e s) ≡ after digit (drop at s)
unfolding of_class
behind s at {e} v = rest s e ∙ sym (span_rest v)

pub tail : (s word : List ℕ) {e : ℕ} {r : Bool} → Span (of_class Decimal) s 0 e → r ≡ same (take (length s - e) (drop e s)) word → r ≡ same (after digit s) word
tail s word v f = f ∙ ap (λ l. same l word) (behind s 0 v)

pub ruleset tails = (tail, rules)

pub no_fraction : (s : List ℕ) → pointwise eqb (take 1 s) (46 ∷ []) ≡ false → false ≡ is_fraction s
unfolding is_fraction
no_fraction s e = rw (strip_other 46 s e)

pub fraction : (s : List ℕ) {t : List ℕ} {r : Bool} → pointwise eqb (take 1 s) (46 ∷ []) ≡ true → t ≡ drop 1 s → r ≡ same (after digit t) (102 ∷ []) → r ≡ is_fraction s
unfolding is_fraction
fraction s e f g = g ∙ rw (strip_byte 46 s e, f)

pub no_format : (s : List ℕ) → pointwise eqb (take 1 s) (37 ∷ []) ≡ false → false ≡ is_formatting s
unfolding is_formatting
no_format s e = rw (strip_other 37 s e)

module _ (s : List ℕ) {t : List ℕ} (e : pointwise eqb (take 1 s) (37 ∷ []) ≡ true) (f : t ≡ drop 1 s) {u : Bool} (g : u ≡ same (after digit t) (102 ∷ [])) where
  pub plain_format : u ≡ true → u ≡ is_formatting s
  unfolding is_formatting
  plain_format h = rw (strip_byte 37 s e, ← f, ← g, h)

  pub point_format : {k : ℕ} {r : Bool} → u ≡ false → Span (of_class Decimal) t 0 k → r ≡ is_fraction (take (length t - k) (drop k t)) → r ≡ is_formatting s
  unfolding is_formatting is_fraction
  point_format h v m = m ∙ rw (strip_byte 37 s e, ← f, ← g, h, behind t 0 v)
