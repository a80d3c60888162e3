-- An end tag against a name, one law for each way through the code.
use mathlib.Core.Path.{◌≡◌, refl, sym, ap, ◌∙◌}
use mathlib.Core.List.{List, [], ◌∷◌, ◌++◌}
use mathlib.Core.Bool.{Bool, true, false, cond}
use mathlib.Core.Option.{Option, none, some}
use Prim.Native.Nat.{ℕ, ◌+◌, ◌-◌, ◌≤◌, ◌<◌}
use native.Mathlib.Omega.{arith}
use borrow.Author.Rules.{rules}
use borrow.Author.Tests.{eq-eqb, ne_eqb}
use lib.Dec.{eqb}
use lib.ListN.{length, drop, get_or, length-drop}
use lib.Seq.{get_or-drop}
use Rattle.cdi.specs.Lists.{same, begins, all, while, after, between}
use Rattle.cdi.specs.Pieces.{blank, digit, name_start, name_byte, name_at}
use Rattle.cdi.proofs.Quiet.{impossible}
use Rattle.cdi.proofs.Tests.{both_left, both_right, both}
use Rattle.scan.specs.Spans.{Span}
use Rattle.scan.proofs.Along.{drop_next}
use Rattle.scan.proofs.Spans.{start, stops}
use Rattle.scan.proofs.Words.{begun_length}
use Rattle.pieces_cuts.specs.Places.{part, Name}
use Rattle.pieces_marks.proofs.Reading.{part_length}
use Rattle.naming_words.specs.Whole.{is_name}
use Rattle.naming_words.proofs.Whole.{Whole, whole_part, whole_name}
use Rattle.marks_ends.specs.Ends.{Finishes, shut_end, Closes}
use Rattle.marks_ends.proofs.Ending.{closed}
use Rattle.marks_ends.proofs.Shutting.{begun_byte, shutter, shutter_length, shutter_last}

-- ── by reading it ──

module _ (s : List ℕ) (from to at : ℕ) {n e : ℕ} (v : Finishes s at n e) where
  pub read_bad : e ≡ 0 → Closes s from to at 4 0 0
  read_bad z = record { tag = λ y. absurd (y refl); number = λ y. absurd (y refl); bad = λ y. v.bad z; none = λ y. (refl, refl) }

  module _ (z : e ≡ 0 → ⊥) where
    pub name_low : at + 2 ≤ n
    name_low = (v.tag z).cut.name_low

    module _ {r : Bool} (q : r ≡ same (part s from to) (part s (at + 2) n)) where
      pub read_own : r ≡ true → Closes s from to at 0 n e
      read_own f = record { tag = λ y. v.tag z; number = λ y. rw (← q, f); bad = λ y. absurd (omega arith); none = λ y. absurd (omega arith) }

      pub read_other : r ≡ false → Closes s from to at 6 n e
      read_other f = record { tag = λ y. v.tag z; number = λ y. rw (← q, f); bad = λ y. absurd (omega arith); none = λ y. absurd (omega arith) }

pub ruleset read_ends = (read_bad, name_low, read_own, read_other, rules)

-- ── in place ──

all_name : (t : List ℕ) → all name_byte (while name_byte t) ≡ true
unfolding all while
all_name [] = refl
all_name (x ∷ t) = by (name_byte x) refl (all_name t)
  where
    by : (b : Bool) → name_byte x ≡ b → all name_byte (while name_byte t) ≡ true → all name_byte (cond b (x ∷ while name_byte t) []) ≡ true
    by true e f = both e f
    by false e f = refl

-- a name that was read is one
read_name : (t w u : List ℕ) → name_at t ≡ some (w, u) → is_name w ≡ true
unfolding name_at is_name
read_name [] w u e = impossible (cc)
read_name (x ∷ t) w u e = by (name_start x) refl e
  where
    by : (b : Bool) → name_start x ≡ b → cond {A = Option (List ℕ × List ℕ)} b (some (x ∷ while name_byte t, after name_byte t)) none ≡ some (w, u) → is_name w ≡ true
    by true f g = let q : ◌≡◌ {A = List ℕ × List ℕ} (x ∷ while name_byte t, after name_byte t) (w, u) = cc in ap (λ o. is_name o.0) (sym q) ∙ both f (all_name t)
    by false f g = impossible (cc)

pub part_name : {s : List ℕ} {from to : ℕ} → from < to → Name s from to → is_name (part s from to) ≡ true
part_name {s} {from} {to} l v = read_name (drop from s) (part s from to) (drop to s) (v.is ∙ rw (ne_eqb to from (λ z. omega arith)))

begins_left : (w v t : List ℕ) → begins (w ++ v) t ≡ true → begins w t ≡ true
unfolding begins
begins_left [] v t e = refl
begins_left (x ∷ w) v [] e = impossible (cc)
begins_left (x ∷ w) v (y ∷ t) e = both (both_left (eqb x y) _ e) (begins_left w v t (both_right (eqb x y) _ e))

pub same_self : (w : List ℕ) → same w w ≡ true
unfolding same
same_self [] = refl
same_self (x ∷ w) = both (eq-eqb x x refl) (same_self w)

-- no name goes on with `>`
no_name : {x : ℕ} → x ≡ 62 → name_byte x ≡ false
unfolding name_byte name_start digit between
no_name e = rw e

-- what is known where the name stands at a place again, and `>` behind it
pub record Shut (s : List ℕ) (from to at e : ℕ) : Type 0 where
  pub whole : Whole (part s from to) s at (e - 1)
  pub mark : get_or s (e - 1) 0 ≡ 62
  pub is : e ≡ at + (to - from) + 1
  pub high : e ≤ length s

module _ (s : List ℕ) (from to at : ℕ) (l : from < to) (v : Name s from to) (a : at ≤ length s) {e : ℕ} (q : e ≡ shut_end s from to at) (z : e ≡ 0 → ⊥) where
  pub shut_says : Shut s from to at e
  unfolding shut_end
  shut_says = by (begins (shutter s from to) (drop at s)) refl q
    where
      low : from ≤ to
      low = omega arith

      by : (b : Bool) → begins (shutter s from to) (drop at s) ≡ b → e ≡ cond b (at + (to - from) + 1) 0 → Shut s from to at e
      by false f g = absurd (z g)
      by true f g =
          let long = shutter_length s from to low v.high in
          let there : at + (to - from) ≡ e - 1 = omega arith in
          let mark : get_or s (e - 1) 0 ≡ 62 = ap (λ i. get_or s i 0) (sym there) ∙ sym (get_or-drop at s (to - from) 0) ∙ begun_byte (shutter s from to) (drop at s) (to - from) f (omega arith) ∙ shutter_last s from to low v.high in
          record {
            whole = record { here = begins_left (part s from to) (62 ∷ []) (drop at s) f; stops = no_name mark; behind = omega (arith, part_length s from to low v.high) };
            mark = mark;
            is = g;
            high = omega (arith, begun_length (shutter s from to) (drop at s) f, length-drop at s);
          }

  -- the name there ends before the `>`
  pub shut_name : Name s at (e - 1)
  shut_name = whole_name (part s from to) shut_says.whole (part_name l v) a

  -- and is the same
  pub shut_same : part s at (e - 1) ≡ part s from to
  shut_same = whole_part (part s from to) shut_says.whole

-- an end tag that closes right behind that name
module _ (s : List ℕ) (from to at : ℕ) (l : from < to) (v : Name s from to) (h : at + 2 ≤ length s) (b : begins (60 ∷ 47 ∷ []) (drop at s) ≡ true) {e : ℕ} (q : e ≡ shut_end s from to (at + 2)) (z : e ≡ 0 → ⊥) where
  pub shut_finishes : Finishes s at (e - 1) e
  unfolding begins blank
  shut_finishes =
      let d = shut_says s from to (at + 2) l v h q z in
      let n = shut_name s from to (at + 2) l v h q z in
      let k : e - 1 < length s = omega (arith, d.is, d.high) in
      let back : e - 1 + 1 ≡ e = omega (arith, d.is) in
      let w : Span blank s (e - 1) (e - 1) = stops (start blank s (e - 1) (omega arith)) {r = false} k (rw d.mark) refl in
      let y : true ≡ begins (62 ∷ []) (drop (e - 1) s) = rw (drop_next s (e - 1) k, d.mark) in
      rw back at (closed s at h b n (λ x. omega (arith, d.is)) w y refl)

  pub shut_own : Closes s from to at 0 (e - 1) e
  shut_own = read_own s from to at shut_finishes z (sym (ap (same (part s from to)) (shut_same s from to (at + 2) l v h q z) ∙ same_self (part s from to))) refl

pub ruleset closings = (shut_own, rules)
