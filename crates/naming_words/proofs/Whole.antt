-- A word at a place, and that a whole word is the name at its place.
use mathlib.Core.Path.{◌≡◌, refl, sym, ap, ◌∙◌}
use mathlib.Core.List.{List, [], ◌∷◌}
use mathlib.Core.Bool.{Bool, true, false, cond}
use mathlib.Core.Option.{some}
use Prim.Native.Nat.{ℕ, ◌+◌, ◌-◌, ◌≤◌, ◌<◌}
use native.Mathlib.Omega.{arith}
use borrow.Author.Rules.{rules}
use borrow.Author.Tests.{eqb-true, ne_eqb}
use lib.Dec.{eqb}
use lib.ListN.{length, take, drop, get_or, length-drop}
use lib.Seq.{drop-drop, get_or-drop}
use Rattle.cdi.specs.Lists.{begins, all, while, after}
use Rattle.cdi.specs.Pieces.{name_start, name_byte, name_at}
use Rattle.cdi.proofs.Quiet.{impossible}
use Rattle.cdi.proofs.Tests.{both_left, both_right}
use Rattle.scan.proofs.Words.{begun_length}
use Rattle.pieces_cuts.specs.Places.{part, Name}
use Rattle.naming_words.specs.Whole.{word_end, is_name}

-- ── the ways through the code ──

module _ (w s : List ℕ) (at : ℕ) where
  module _ {t : Bool} (e : t ≡ begins w (drop at s)) where
    pub other : t ≡ false → 0 ≡ word_end w s at
    unfolding word_end
    other f = rw (← e, f)

    module _ (f : t ≡ true) {b : ℕ} (g : b ≡ get_or s (at + length w) 0) {u : Bool} (h : u ≡ name_byte b) where
      next : name_byte (get_or s (at + length w) 0) ≡ u
      next = ap name_byte (sym g) ∙ sym h

      pub goes_on : u ≡ true → 0 ≡ word_end w s at
      unfolding word_end
      goes_on k = rw (← e, f, next, k)

      pub ends : u ≡ false → at + length w ≡ word_end w s at
      unfolding word_end
      ends k = rw (← e, f, next, k)

  pub too_short : at ≤ length s → length s - at < length w → 0 ≡ word_end w s at
  too_short h k = by (begins w (drop at s)) refl
    where
      by : (t : Bool) → t ≡ begins w (drop at s) → 0 ≡ word_end w s at
      by true e = let l = begun_length w (drop at s) (sym e) in absurd (omega (arith, length-drop at s))
      by false e = other e refl

pub ruleset word_ends = (too_short, other, goes_on, ends, rules)

-- ── the name at the place ──

-- the word stands at a place, r is behind it, and no name goes on there
pub record Whole (w s : List ℕ) (at r : ℕ) : Type 0 where
  pub here : begins w (drop at s) ≡ true
  pub stops : name_byte (get_or s r 0) ≡ false
  pub behind : r ≡ at + length w

pub whole : (w s : List ℕ) (at : ℕ) {r : ℕ} → r ≡ word_end w s at → (r ≡ 0 → ⊥) → Whole w s at r
unfolding word_end
whole w s at {r} e z = by (begins w (drop at s)) refl (name_byte (get_or s (at + length w) 0)) refl e
  where
    by : (t : Bool) → begins w (drop at s) ≡ t → (u : Bool) → name_byte (get_or s (at + length w) 0) ≡ u → r ≡ cond t (cond u 0 (at + length w)) 0 → Whole w s at r
    by true f true g h = absurd (z h)
    by true f false g h = record { here = f; stops = ap (λ i. name_byte (get_or s i 0)) h ∙ g; behind = h }
    by false f u g h = absurd (z h)

-- a name's bytes, and what follows them
carried : (w t : List ℕ) → begins w t ≡ true → all name_byte w ≡ true → name_byte (get_or t (length w) 0) ≡ false → (while name_byte t ≡ w) × (after name_byte t ≡ drop (length w) t)
unfolding begins all while after
carried [] [] e f g = (refl, refl)
carried [] (y ∷ t) e f g = (rw g, rw g)
carried (x ∷ w) [] e f g = impossible (cc)
carried (x ∷ w) (y ∷ t) e f g =
    let is : x ≡ y = eqb-true x y (both_left (eqb x y) _ e) in
    let name : name_byte y ≡ true = ap name_byte (sym is) ∙ both_left (name_byte x) _ f in
    let rest = carried w t (both_right (eqb x y) _ e) (both_right (name_byte x) _ f) g in
    (rw name (rw (← is) (ap (λ l. x ∷ l) rest.0)), rw name rest.1)

taken : (w t : List ℕ) → begins w t ≡ true → take (length w) t ≡ w
unfolding begins
taken [] t e = refl
taken (x ∷ w) [] e = impossible (cc)
taken (x ∷ w) (y ∷ t) e =
    let is : x ≡ y = eqb-true x y (both_left (eqb x y) _ e) in
    let rest = taken w t (both_right (eqb x y) _ e) in
    cc

first_name : (w t : List ℕ) → is_name w ≡ true → begins w t ≡ true → name_byte (get_or t (length w) 0) ≡ false → name_at t ≡ some (w, drop (length w) t)
unfolding is_name begins name_at
first_name [] t i e g = impossible (cc)
first_name (x ∷ w) [] i e g = impossible (cc)
first_name (x ∷ w) (y ∷ t) i e g =
    let is : x ≡ y = eqb-true x y (both_left (eqb x y) _ e) in
    let first : name_start y ≡ true = ap name_start (sym is) ∙ both_left (name_start x) _ i in
    let rest = carried w t (both_right (eqb x y) _ e) (both_right (name_start x) _ i) g in
    rw (first, rest.0, rest.1, is)

filled : (w : List ℕ) → is_name w ≡ true → 0 < length w
unfolding is_name
filled [] i = impossible (cc)
filled (x ∷ w) i = omega arith

module _ (w : List ℕ) {s : List ℕ} {at r : ℕ} (v : Whole w s at r) where
  long : r - at ≡ length w
  long = omega (arith, v.behind)

  -- a whole word is what stands there
  pub whole_part : part s at r ≡ w
  whole_part = ap (λ n. take n (drop at s)) long ∙ taken w (drop at s) v.here

  -- and the name there, where it is one
  pub whole_name : is_name w ≡ true → at ≤ length s → Name s at r
  whole_name i h = record {
    is = first_name w (drop at s) i v.here stop ∙ rw (ne_eqb r at apart, whole_part, drop-drop (length w) at s, ← v.behind);
    low = omega (arith, v.behind);
    high = omega (arith, v.behind, begun_length w (drop at s) v.here, length-drop at s);
  }
    where
      stop : name_byte (get_or (drop at s) (length w) 0) ≡ false
      stop = ap name_byte (get_or-drop at s (length w) 0 ∙ ap (λ j. get_or s j 0) (sym v.behind)) ∙ v.stops

      apart : r ≡ at → ⊥
      apart z = omega (arith, v.behind, filled w i)
