-- The records that hold segments in their ranges pass the test of a plan.
use mathlib.Core.Path.{◌≡◌, refl, subst, ◌∙◌}
use mathlib.Core.List.{List, [], ◌∷◌, ◌++◌, append_assoc}
use mathlib.Core.Option.{Option, none, some, some-ne-none}
use mathlib.Core.Bool.{Bool, true, false, cond, ◌||◌}
use Prim.Native.Nat.{ℕ, zero, suc, ◌+◌, ◌-◌, ◌<◌, ◌≤◌}
use native.Mathlib.Omega.{arith}
use borrow.Author.Tests.{lt-ltb, le-ltb, le-leb, ne_eqb, ltb-true}
use lib.Dec.{eqb}
use lib.IntN.{ℤ, pos, negsuc}
use lib.Signed.{lt_z}
use Rattle.cdi.specs.Lists.{any}
use Rattle.cdi.specs.Numbers.{within}
use Rattle.cdi.specs.Faults.{Fault, fault}
use Rattle.cdi.specs.Rules.{natural}
use Rattle.cdi.specs.Walk.{Items, no_items, variable, group, Segment, records, Step, steps, count, change, segment_steps, segment_keeps, after_segment}
use Rattle.cdi.specs.Table.{table_of, records_from, records_of}
use Rattle.cdi.specs.Plans.{field, one_of, size_fits, offset_fits, replication_fits, place_fits, next_fits, item_fits, segment_fits, told, item_of, items_from, items_good, segments_good}
use Rattle.cdi.specs.Planning.{leaving}
use Rattle.cdi.proofs.Tests.{both}
use Rattle.cdi.proofs.Signs.{number_same}
use Rattle.cdi.proofs.Fit.{ItemsFit, SegmentsFit, item_places, segment_places, Rising, Planable}
use Rattle.cdi.proofs.Held.{Row, ItemsHeld, SegmentsHeld, table_held}
use Rattle.cdi.proofs.Decoded.{records_from_law, next_is, is_variable, is_group, items_back, segment_back}

-- ── tests ──

from_to : {lo hi n : ℕ} → lo ≤ n → n ≤ hi → within (pos lo) (pos hi) (pos n) ≡ true
unfolding within
from_to {lo} {hi} {n} p q = both (le-leb lo n p) (le-leb n hi q)

only : (n : ℕ) → one_of (n ∷ []) (pos n) ≡ true
unfolding one_of any
only n = rw (number_same (pos n))

-- ── places ──

-- the place before record i is below all of ps, which rise
record Ahead (t : List ℤ) (i : ℕ) (ps : List ℕ) : Type 0 where
  least : ℕ
  enough : 22 ≤ least
  before : (eqb i 0 || lt_z (field t (i - 1) 1) (pos least)) ≡ true
  rising : Rising least ps

-- a place below m is below n
raised : {m n : ℕ} (b : Bool) (z : ℤ) → m ≤ n → (b || lt_z z (pos m)) ≡ true → (b || lt_z z (pos n)) ≡ true
raised true z q h = refl
raised {m} {n} false (pos a) q h = lt-ltb a n (omega (arith, ltb-true a m h))
raised false (negsuc a) q h = refl

module _ {t : List ℤ} {i p : ℕ} {ps : List ℕ} (q : field t i 1 ≡ pos p) (a : Ahead t i (p ∷ ps)) where
  place_fits_law : place_fits t i ≡ true
  unfolding place_fits Rising
  place_fits_law =
      let s = a.rising in
      rw q (both (from_to (omega arith) (omega arith)) (raised (eqb i 0) (field t (i - 1) 1) s.0 a.before))

  onward : Ahead t (i + 1) ps
  unfolding Rising
  onward =
      let s = a.rising in
      let back : i + 1 - 1 ≡ i = omega arith in
      record {
        least = p + 1;
        enough = omega arith;
        before = rw (ne_eqb (i + 1) 0 (omega arith), back, q) (lt-ltb p (p + 1) (omega arith));
        rising = s.2;
      }

-- past the records of data elements, which end at e
past : (t : List ℤ) (s : Items) (i e : ℕ) (ps : List ℕ) → ItemsHeld t i s → e ≡ i + records s → Ahead t i (item_places s ++ ps) → Ahead t e ps
unfolding ItemsHeld item_places records
past t no_items i e ps h q a = subst (λ (j : ℕ). Ahead t j ps) (omega arith) a
past t (variable k p o n following) i e ps h q a = past t following (i + 1) e ps h.1 (omega arith) (onward h.0.place a)
past t (group p o r members following) i e ps h q a =
    let x = i + 1 + records members in
    past t following x e ps h.2 (omega arith)
    (past t members (i + 1) x (item_places following ++ ps) h.1 refl (rw append_assoc at (onward h.0.place a)))

-- ── data elements ──

-- a record that holds what a walk gives tells it
told_by : {t : List ℤ} {i k p n r x : ℕ} {o : ℤ} (w : List Step) → Row t i k p o n r x (count w) (change w) → told t i w ≡ true
unfolding told
told_by w row = rw (row.counted, row.changed) (both (number_same (pos (count w))) (number_same (change w)))

item_fits_law : {t : List ℤ} {i k p n r x c : ℕ} {o z : ℤ} (e : ℕ) → Row t i k p o n r x c z → size_fits k (pos n) ≡ true → place_fits t i ≡ true
    → offset_fits o ≡ true → replication_fits k (pos r) ≡ true → next_fits (eqb k 2) i e (pos x) ≡ true → item_fits t i e ≡ true
unfolding item_fits natural
item_fits_law e row size place offset replication next =
    rw (row.kind, row.start, row.size, row.replication, row.next) (both size (both place (both offset (both replication next))))

-- no record left, or one more
good_end : (t : List ℤ) (k d i e : ℕ) → e ≤ i → items_good t k d i e ≡ true
unfolding items_good
good_end t zero d i e h = refl
good_end t (suc k) d i e h = rw (le-ltb i e h, items_good)

good_more : {t : List ℤ} {i kind p n r x : ℕ} {o : ℤ} {s : Items} (k d e : ℕ) → Row t i kind p o n r x (count (steps i s)) (change (steps i s))
    → i < e → d ≤ 24 → item_fits t i e ≡ true → item_of t i (items_from t k (i + 1) x) no_items ≡ s
    → items_good t k (d + 1) (i + 1) x ≡ true → items_good t k d x e ≡ true → items_good t (suc k) d i e ≡ true
unfolding items_good
good_more {i} {s} k d e row h depth fits is inside following =
    rw (lt-ltb i e h, items_good, next_is row, is) (both (le-leb d 24 depth) (both fits (both inside (both (told_by (steps i s) row) following))))

-- data elements in their ranges, held by the records from i to before e, pass the test
items_good_law : (t : List ℤ) (s : Items) (d k i e : ℕ) (ps : List ℕ) → ItemsFit d s → ItemsHeld t i s → Ahead t i (item_places s ++ ps)
    → e ≡ i + records s → records s ≤ k → items_good t k d i e ≡ true
unfolding ItemsFit ItemsHeld item_places records size_fits replication_fits next_fits
items_good_law t no_items d k i e ps f h a q b = good_end t k d i e (omega arith)
items_good_law t (variable kind p o n following) d zero i e ps f h a q b = absurd (omega arith)
items_good_law t (variable kind p o n following) d (suc k) i e ps f h a q b =
    let row = h.0 in
    let other : eqb kind 2 ≡ false = ne_eqb kind 2 (omega arith) in
    good_more k d e row (omega arith) f.0
    (item_fits_law e row f.2 (place_fits_law row.place a) f.3 (rw other (only 1)) (rw other (only (i + 1))))
    (is_variable row f.1 (items_from t k (i + 1) (i + 1)) no_items)
    (good_end t k (d + 1) (i + 1) (i + 1) (omega arith))
    (items_good_law t following d k (i + 1) e ps f.4 h.1 (onward row.place a) (omega arith) (omega arith))
items_good_law t (group p o r members following) d zero i e ps f h a q b = absurd (omega arith)
items_good_law t (group p o r members following) d (suc k) i e ps f h a q b =
    let row = h.0 in
    let x = i + 1 + records members in
    let qs = item_places following ++ ps in
    let inner : Ahead t (i + 1) (item_places members ++ qs) = rw append_assoc at (onward row.place a) in
    good_more k d e row (omega arith) f.0
    (item_fits_law e row (only 0) (place_fits_law row.place a) f.1 (from_to f.2 f.3) (from_to (omega arith) (omega arith)))
    (is_group row (items_from t k (i + 1) x) no_items ∙ rw (items_back t members (d + 1) k (i + 1) x f.4 h.1 refl (omega arith)))
    (items_good_law t members (d + 1) k (i + 1) x qs f.4 h.1 inner refl (omega arith))
    (items_good_law t following d k x e ps f.5 h.2 (past t members (i + 1) x qs h.1 refl inner) (omega arith) (omega arith))

-- ── segments ──

segment_fits_law : {t : List ℤ} {i p o n x c : ℕ} {z : ℤ} (e : ℕ) → Row t i 1 p (pos o) n 1 x c z → place_fits t i ≡ true
    → o ≤ 2147483647 → n ≤ 255 → i < x → x ≤ e → segment_fits t i e ≡ true
unfolding segment_fits natural replication_fits next_fits
segment_fits_law e row place origin space ahead nests =
    rw (row.kind, row.start, row.size, row.replication, row.next)
    (both place (both (from_to (omega arith) origin) (both (from_to (omega arith) space) (both (only 1) (from_to (omega arith) nests)))))

-- a fault that is missing
kept : (b : Bool) (r : Option Fault) (f : Fault) → cond b r (some f) ≡ none → (b ≡ true) × (r ≡ none)
kept true r f h = (refl, h)
kept false r f h = absurd (some-ne-none f h)

-- segments in their ranges that keep the address, held by the records from i on, pass the test
segments_good_law : (t : List ℤ) (gs : List Segment) (k i : ℕ) → SegmentsFit gs → SegmentsHeld t i gs → Ahead t i (segment_places gs)
    → leaving i gs ≡ none → records_from i gs ≤ i + k → segments_good t k i (records_from i gs) ≡ true
unfolding SegmentsFit SegmentsHeld segment_places leaving records_from segments_good after_segment
segments_good_law t [] zero i f h a l b = refl
segments_good_law t [] (suc k) i f h a l b = rw (le-ltb i i (omega arith), segments_good)
segments_good_law t (g ∷ gs) zero i f h a l b = absurd (omega (arith, records_from_law (after_segment i g) gs))
segments_good_law t (g ∷ gs) (suc k) i f h a l b =
    let row = h.0 in
    let x = i + 1 + records g.items in
    let e = records_from x gs in
    let nests : x ≤ e = records_from_law x gs in
    let inner = onward row.place a in
    let stays = kept (segment_keeps i g) (leaving x gs) (fault 11 g.place) l in
    rw (lt-ltb i e (omega arith), segments_good, segment_back t i g gs f h, next_is row)
    (both (segment_fits_law e row (place_fits_law row.place a) f.0 f.1 (omega arith) nests)
    (both (items_good_law t g.items 3 (x - (i + 1)) (i + 1) x (segment_places gs) f.2 h.1 inner refl (omega arith))
    (both (both (told_by (segment_steps i g) row) stays.0)
    (segments_good_law t gs k x f.3 h.2 (past t g.items (i + 1) x (segment_places gs) h.1 refl inner) stays.1 (omega arith)))))

-- The records of a planable table pass the test.
pub table_good : {gs : List Segment} → Planable gs → segments_good (table_of gs) (records_of gs) 0 (records_of gs) ≡ true
unfolding records_of
table_good {gs} h =
    let start : Ahead (table_of gs) 0 (segment_places gs) = record { least = 22; enough = omega arith; before = refl; rising = h.places } in
    segments_good_law (table_of gs) gs (records_of gs) 0 h.ranges (table_held gs) start h.keeps (omega arith)
