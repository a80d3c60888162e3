-- A plain leaf, by its tests.
use mathlib.Core.Path.{◌≡◌, refl, sym, ap}
use mathlib.Core.List.{List, [], ◌∷◌}
use mathlib.Core.Bool.{Bool, true, false, not, ◌||◌, false≢true}
use mathlib.Core.Option.{some}
use Prim.Native.Nat.{ℕ, ◌+◌, ◌-◌, ◌≤◌, ◌<◌}
use native.Mathlib.Omega.{arith}
use borrow.Author.Rules.{rules}
use borrow.Author.Tests.{eqb-true}
use lib.Dec.{eqb}
use lib.ListN.{length, drop, get_or}
use Rattle.cdi.specs.Lists.{any, after, begins}
use Rattle.cdi.specs.Pieces.{blank, attributes, tag_end, twice}
use Rattle.cdi.specs.Markup.{refers}
use Rattle.scan.specs.Spans.{span_end, Span}
use Rattle.scan.proofs.Along.{drop_next}
use Rattle.pieces_cuts.specs.Places.{Name}
use Rattle.pieces_cuts.specs.Cuts.{Stands}
use Rattle.marks_cuts.specs.Marks.{sort_at, plain, start_cut, text_cut}
use Rattle.marks_cuts.proofs.Tags.{tagged}
use Rattle.marks_cuts.proofs.Inside.{span_inside, spanned}
use Rattle.marks_cuts.proofs.Runs.{plain_text, all_plain, ends}
use Rattle.marks_ends.specs.Ends.{shut_end}
use Rattle.marks_ends.proofs.Closing.{shut_says, shut_same, shut_finishes}
use Rattle.marks_leaf.specs.Leaves.{Plain, Leaves}

pub no_leaf : (s : List ℕ) (at n : ℕ) → Leaves s at n 0 0
no_leaf s at n = record { plain = λ z. absurd (z refl) }

-- a test on two bytes that fails tells both
both_are : (a b x y : ℕ) → (not (eqb a x) || not (eqb b y)) ≡ false → (a ≡ x) × (b ≡ y)
both_are a b x y e = by (eqb a x) refl (eqb b y) refl e
  where
    by : (p : Bool) → eqb a x ≡ p → (q : Bool) → eqb b y ≡ q → (not p || not q) ≡ false → (a ≡ x) × (b ≡ y)
    by true f true g h = (eqb-true a x f, eqb-true b y g)
    by true f false g h = absurd (false≢true (sym h))
    by false f q g h = absurd (false≢true (sym h))

-- a start tag that ends right behind its name
module _ (s : List ℕ) (n : ℕ) (h : n < length s) (e : get_or s n 0 ≡ 62) where
  bare : attributes n 0 (drop n s) ≡ []
  unfolding attributes blank
  bare = rw (drop_next s n h, e)

  ends_there : tag_end 0 (drop n s) ≡ some (false, drop (n + 1) s)
  unfolding tag_end after blank begins
  ends_there = rw (drop_next s n h, e)

module _ (s : List ℕ) (at n : ℕ) (p : sort_at (drop at s) ≡ 0) (v : Name s (at + 1) n) (l : at + 1 < n) (h : n < length s) (e : get_or s n 0 ≡ 62) where
  begin : Stands s at (start_cut at n (n + 1) false false)
  unfolding twice refers any
  begin =
      let b = bare s n h e in
      let none : refers (attributes n 0 (drop n s)) ≡ false = ap refers b in
      rw none at (tagged s at p v (λ z. omega arith) {e = n + 1} {k = false} (ap twice b) (ends_there s n h e) (omega arith) (omega arith))

  module _ {to : ℕ} (w : Span plain s (n + 1) to) (r : 2 ≤ length s - to) (f : (not (eqb (get_or s to 0) 60) || not (eqb (get_or s (to + 1) 0) 47)) ≡ false) where
    mark : (get_or s to 0 ≡ 60) × (get_or s (to + 1) 0 ≡ 47)
    mark = both_are (get_or s to 0) (get_or s (to + 1) 0) 60 47 f

    opens : begins (60 ∷ 47 ∷ []) (drop to s) ≡ true
    unfolding begins
    opens = rw (drop_next s to (omega arith), drop_next s (to + 1) (omega arith), mark.0, mark.1)

    content : (to ≡ n + 1 → ⊥) → Stands s (n + 1) (text_cut (n + 1) to (span_end blank s (n + 1)))
    content z =
        let first = plain_text (get_or s (n + 1) 0) (span_inside plain s w (n + 1) (omega arith) (omega (arith, w.low))) in
        ends (all_plain s (n + 1) w) (omega (arith, w.low)) first (λ k y. omega (arith, mark.0)) (spanned blank s (n + 1) (omega arith))

    pub leaf_there : {c : ℕ} → c ≡ shut_end s (at + 1) n (to + 2) → Leaves s at n to c
    leaf_there {c} q = record { plain = λ z. leaf z }
      where
        leaf : (c ≡ 0 → ⊥) → Plain s at n to c
        leaf z =
            let room : to + 2 ≤ length s = omega arith in
            let d = shut_says s (at + 1) n (to + 2) l v room q z in
            let back : c - 1 ≡ to + 2 + (n - (at + 1)) = omega (arith, d.is) in
            record {
              start = begin;
              bare = bare s n h e;
              low = w.low;
              text = content;
              finish = rw back at ((shut_finishes s (at + 1) n to l v room opens q z).tag z);
              name = rw back at (shut_same s (at + 1) n (to + 2) l v room q z);
            }

pub ruleset leaves = (no_leaf, leaf_there, rules)
