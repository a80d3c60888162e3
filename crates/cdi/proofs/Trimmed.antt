-- A text without what passes at its end: nothing is left where all of it passes, and else the first byte stays.
use mathlib.Core.Path.{◌≡◌, refl, ◌∙◌}
use mathlib.Core.List.{List, [], ◌∷◌}
use mathlib.Core.Bool.{Bool, true, false, cond, ◌&&◌}
use Prim.Native.Nat.{ℕ}
use Rattle.cdi.specs.Lists.{is_empty, all, shorn}

pub shorn_empty : (p : ℕ → Bool) (s : List ℕ) → is_empty (shorn p s) ≡ all p s
unfolding shorn is_empty all
shorn_empty p [] = refl
shorn_empty p (x ∷ s) = by (p x) (is_empty (shorn p s)) (shorn_empty p s)
  where
    by : (t u : Bool) → u ≡ all p s → is_empty (cond (t && u) [] (x ∷ shorn p s)) ≡ (t && all p s)
    by true true e = e
    by true false e = e
    by false u e = refl

pub shorn_all : (p : ℕ → Bool) (s : List ℕ) → all p s ≡ true → shorn p s ≡ []
unfolding is_empty
shorn_all p s e = by (shorn p s) (shorn_empty p s ∙ e)
  where
    by : (r : List ℕ) → is_empty r ≡ true → r ≡ []
    by [] e = refl
    by (x ∷ r) e = cc

pub shorn_first : (p : ℕ → Bool) (b : ℕ) (s : List ℕ) → all p (b ∷ s) ≡ false → shorn p (b ∷ s) ≡ b ∷ shorn p s
unfolding shorn all
shorn_first p b s e = rw (shorn_empty p s, e)
