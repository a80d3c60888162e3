-- The end of a value: the span of its bytes, and whether `&` stands among them.
use mathlib.Core.Path.{◌≡◌, refl, sym, ap, subst, ◌∙◌}
use mathlib.Core.List.{List, []}
use mathlib.Core.Bool.{Bool, true, false, ◌||◌}
use Prim.Native.Nat.{ℕ, ◌+◌, ◌-◌, ◌≤◌, ◌<◌}
use native.Mathlib.Omega.{arith}
use borrow.Author.Rules.{rules}
use lib.Dec.{eqb}
use lib.ListN.{length, take, drop, get_or, drop_of_length-le}
use Rattle.cdi.specs.Lists.{any, while}
use Rattle.scan.proofs.Along.{drop_next}
use Rattle.scan.proofs.Spans.{Spanning, start, out, out_whole, stops, goes, span_here}

-- whether `&` stands among the value's bytes, by what was met before i and what is still to come
pub record Seeing (p : ℕ → Bool) (s : List ℕ) (at i : ℕ) (refers : Bool) : Type 0 where
  pub left : any (eqb 38) (while p (drop at s)) ≡ (refers || any (eqb 38) (while p (drop i s)))

pub none_seen : (p : ℕ → Bool) (s : List ℕ) (at : ℕ) → Seeing p s at at false
none_seen p s at = record { left = refl }

or-false : (t : Bool) → (t || false) ≡ t
or-false true = refl
or-false false = refl

or_or : (x y z : Bool) → (x || (y || z)) ≡ ((x || y) || z)
or_or true y z = refl
or_or false y z = refl

module _ {p : ℕ → Bool} {s : List ℕ} {at i : ℕ} {refers : Bool} (v : Seeing p s at i refers) where
  ended : while p (drop i s) ≡ [] → refers ≡ any (eqb 38) (while p (drop at s))
  unfolding any
  ended e = sym (v.left ∙ rw e (or-false refers))

  seen_out : Spanning p s at i → length s ≤ i → refers ≡ any (eqb 38) (take (i - at) (drop at s))
  unfolding while
  seen_out w h = ended (rw (drop_of_length-le s h)) ∙ ap (any (eqb 38)) (span_here (out w h))

  pub seen_whole : Spanning p s at i → length s ≤ i → refers ≡ any (eqb 38) (take (length s - at) (drop at s))
  seen_whole w h = let is : i ≡ length s = omega (arith, w.high) in subst (λ n. refers ≡ any (eqb 38) (take (n - at) (drop at s))) is (seen_out w h)

  module _ {r : Bool} (h : i < length s) (e : r ≡ p (get_or s i 0)) where
    pub seen_stops : Spanning p s at i → r ≡ false → refers ≡ any (eqb 38) (take (i - at) (drop at s))
    unfolding while
    seen_stops w f = ended (rw (drop_next s i h, ← e, f)) ∙ ap (any (eqb 38)) (span_here (stops w h e f))

    pub seen_goes : {t : Bool} → r ≡ true → t ≡ eqb 38 (get_or s i 0) → Seeing p s at (i + 1) (refers || t)
    unfolding while any
    seen_goes {t} f g = record { left = v.left ∙ rw (drop_next s i h, ← e, f, ← g) (or_or refers t _) }

pub ruleset value_loop = (start, out_whole, stops, goes, none_seen, seen_whole, seen_stops, seen_goes, rules)
