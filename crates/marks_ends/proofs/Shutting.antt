-- A name and `>` compared in place.
use mathlib.Core.Path.{◌≡◌, refl, sym, ap, ◌∙◌}
use mathlib.Core.List.{List, [], ◌∷◌, ◌++◌}
use mathlib.Core.Bool.{Bool, true, false, cond}
use Prim.Native.Nat.{ℕ, zero, suc, ◌+◌, ◌-◌, ◌≤◌, ◌<◌}
use native.Mathlib.Omega.{arith}
use borrow.Author.Rules.{rules}
use borrow.Author.Tests.{eqb-true}
use lib.Dec.{eqb}
use lib.ListN.{length, drop, get_or, length-append, length-drop, get_or-append}
use lib.Seq.{get_or_at, get_or-drop, get_or-take}
use Rattle.cdi.specs.Lists.{begins}
use Rattle.cdi.proofs.Quiet.{impossible}
use Rattle.cdi.proofs.Tests.{both_left, both_right}
use Rattle.scan.proofs.Words.{Agrees, start, full, agrees, begun_length}
use Rattle.pieces_cuts.specs.Places.{part}
use Rattle.pieces_marks.proofs.Reading.{part_length}
use Rattle.marks_ends.specs.Ends.{shut_end}

-- a text agrees with a word that it begins with, byte by byte
pub begun_byte : (w t : List ℕ) (k : ℕ) → begins w t ≡ true → k < length w → get_or t k 0 ≡ get_or w k 0
unfolding begins
begun_byte [] t k e h = absurd (omega arith)
begun_byte (x ∷ w) [] k e h = impossible (cc)
begun_byte (x ∷ w) (y ∷ t) zero e h = sym (eqb-true x y (both_left (eqb x y) _ e))
begun_byte (x ∷ w) (y ∷ t) (suc k) e h = begun_byte w t k (both_right (eqb x y) _ e) (omega arith)

-- the name and `>`
abbrev pub shutter : List ℕ → ℕ → ℕ → List ℕ
shutter s from to = part s from to ++ (62 ∷ [])

module _ (s : List ℕ) (from to : ℕ) (l : from ≤ to) (h : to ≤ length s) where
  pub shutter_length : length (shutter s from to) ≡ to - from + 1
  shutter_length = length-append (part s from to) (62 ∷ []) ∙ ap (λ n. n + 1) (part_length s from to l h)

  pub shutter_last : get_or (shutter s from to) (to - from) 0 ≡ 62
  shutter_last = get_or_at (part s from to) 62 [] 0 (to - from) (part_length s from to l h)

  shutter_byte : (i : ℕ) → i < to - from → get_or (shutter s from to) i 0 ≡ get_or s (from + i) 0
  shutter_byte i k =
      get_or-append (part s from to) (62 ∷ []) 0 i (omega (arith, part_length s from to l h))
      ∙ get_or-take (to - from) (drop from s) i 0 k
      ∙ get_or-drop from s i 0

  module _ (at : ℕ) where
    -- a byte that differs
    wrong : (i : ℕ) → i ≤ to - from → (get_or (shutter s from to) i 0 ≡ get_or s (at + i) 0 → ⊥) → 0 ≡ shut_end s from to at
    unfolding shut_end
    wrong i k f = by (begins (shutter s from to) (drop at s)) refl
      where
        by : (b : Bool) → begins (shutter s from to) (drop at s) ≡ b → 0 ≡ cond b (at + (to - from) + 1) 0
        by true e = absurd (f (sym (begun_byte (shutter s from to) (drop at s) i e (omega (arith, shutter_length))) ∙ get_or-drop at s i 0))
        by false e = refl

    pub no_room : at ≤ length s → length s - at ≤ to - from → 0 ≡ shut_end s from to at
    unfolding shut_end
    no_room k m = by (begins (shutter s from to) (drop at s)) refl
      where
        by : (b : Bool) → begins (shutter s from to) (drop at s) ≡ b → 0 ≡ cond b (at + (to - from) + 1) 0
        by true e = absurd (omega (arith, begun_length (shutter s from to) (drop at s) e, shutter_length, length-drop at s))
        by false e = refl

    pub no_mark : (get_or s (at + (to - from)) 0 ≡ 62 → ⊥) → 0 ≡ shut_end s from to at
    no_mark f = wrong (to - from) (omega arith) (λ e. f (sym e ∙ shutter_last))

-- the first i bytes agree, and `>` stands behind the name
pub record Shutting (s : List ℕ) (from to at i : ℕ) : Type 0 where
  pub left : Agrees s at (shutter s from to) i
  pub mark : get_or s (at + (to - from)) 0 ≡ 62
  pub low : from ≤ to
  pub high : to ≤ length s
  pub room : to - from < length s - at
  pub inside : i ≤ to - from

module _ (s : List ℕ) (from to at : ℕ) where
  pub begin : from ≤ to → to ≤ length s → to - from < length s - at → get_or s (at + (to - from)) 0 ≡ 62 → Shutting s from to at 0
  begin l h r m = record { left = start s at (shutter s from to); mark = m; low = l; high = h; room = r; inside = omega arith }

  module _ {i : ℕ} (v : Shutting s from to at i) where
    here : i < to - from → get_or (shutter s from to) i 0 ≡ get_or s (from + i) 0
    here k = shutter_byte s from to v.low v.high i k

    pub differs : i < to - from → (get_or s (from + i) 0 ≡ get_or s (at + i) 0 → ⊥) → 0 ≡ shut_end s from to at
    differs k f = wrong s from to v.low v.high at i (omega arith) (λ e. f (sym (here k) ∙ e))

    pub one_more : i < to - from → get_or s (from + i) 0 ≡ get_or s (at + i) 0 → Shutting s from to at (i + 1)
    one_more k e = record {
      left = agrees v.left (omega (arith, shutter_length s from to v.low v.high)) (omega (arith, v.room)) (here k ∙ e);
      mark = v.mark;
      low = v.low;
      high = v.high;
      room = v.room;
      inside = omega arith;
    }

    pub all_agree : to - from ≤ i → at + (to - from) + 1 ≡ shut_end s from to at
    unfolding shut_end
    all_agree k =
        let e : i ≡ to - from = omega (arith, v.inside) in
        let long = shutter_length s from to v.low v.high in
        let last : get_or (shutter s from to) i 0 ≡ get_or s (at + i) 0 = ap (λ j. get_or (shutter s from to) j 0) e ∙ shutter_last s from to v.low v.high ∙ sym v.mark ∙ ap (λ j. get_or s (at + j) 0) (sym e) in
        let t = full (agrees v.left (omega arith) (omega (arith, v.room)) last) (omega arith) in
        rw (← t)

pub ruleset shut_loop = (no_room, no_mark, begin, differs, one_more, all_agree, rules)
