-- The segments that a table holds are read back from it.
use mathlib.Core.Path.{◌≡◌, refl}
use mathlib.Core.List.{List, [], ◌∷◌}
use Prim.Native.Nat.{ℕ, zero, suc, ◌+◌, ◌-◌, ◌<◌, ◌≤◌}
use native.Mathlib.Omega.{arith}
use borrow.Author.Tests.{lt-ltb, le-ltb, ne_eqb}
use lib.IntN.{ℤ}
use Rattle.cdi.specs.Rules.{natural}
use Rattle.cdi.specs.Walk.{Items, no_items, variable, group, Segment, records, after_segment}
use Rattle.cdi.specs.Table.{records_from}
use Rattle.cdi.specs.Plans.{next_of, item_of, items_from, items_in, record_segment, segments_from}
use Rattle.cdi.proofs.Fit.{ItemsFit, SegmentsFit}
use Rattle.cdi.proofs.Held.{Row, ItemsHeld, SegmentsHeld, length_segments}

-- The records from i on end at i or behind it.
pub records_from_law : (i : ℕ) (gs : List Segment) → i ≤ records_from i gs
records_from_law i gs = omega (arith, length_segments i gs)

module _ {t : List ℤ} {i k p n r x c : ℕ} {o z : ℤ} (row : Row t i k p o n r x c z) where
  -- A record's next is read back.
  pub next_is : next_of t i ≡ x
  unfolding natural
  next_is = rw row.next

  -- A record of a kind from 3 on is a variable.
  pub is_variable : 3 ≤ k → (members following : Items) → item_of t i members following ≡ variable k p o n following
  unfolding item_of natural
  is_variable h members following = rw (row.kind, row.place, row.start, row.size, ne_eqb k 2 (omega arith))

-- A record of kind 2 is a group.
pub is_group : {t : List ℤ} {i p n r x c : ℕ} {o z : ℤ} → Row t i 2 p o n r x c z → (members following : Items)
    → item_of t i members following ≡ group p o r members following
unfolding item_of natural
is_group row members following = rw (row.kind, row.place, row.start, row.replication)

-- Data elements are read back from the records that hold them.
pub items_back : (t : List ℤ) (s : Items) (d k i e : ℕ) → ItemsFit d s → ItemsHeld t i s → e ≡ i + records s → records s ≤ k
    → items_from t k i e ≡ s
unfolding ItemsFit ItemsHeld records items_from
items_back t no_items d zero i e f h q b = refl
items_back t no_items d (suc k) i e f h q b = rw (le-ltb i e (omega arith), items_from)
items_back t (variable kind p o n following) d zero i e f h q b = absurd (omega arith)
items_back t (variable kind p o n following) d (suc k) i e f h q b =
    rw (lt-ltb i e (omega arith), items_from, next_is h.0, items_back t following d k (i + 1) e f.4 h.1 (omega arith) (omega arith))
    (is_variable h.0 f.1 (items_from t k (i + 1) (i + 1)) following)
items_back t (group p o r members following) d zero i e f h q b = absurd (omega arith)
items_back t (group p o r members following) d (suc k) i e f h q b =
    let x = i + 1 + records members in
    rw (
      lt-ltb i e (omega arith),
      items_from,
      next_is h.0,
      items_back t members (d + 1) k (i + 1) x f.4 h.1 refl (omega arith),
      items_back t following d k x e f.5 h.2 (omega arith) (omega arith),
    )
    (is_group h.0 members following)

-- A segment is read back from the records that hold it.
pub segment_back : (t : List ℤ) (i : ℕ) (g : Segment) (gs : List Segment) → SegmentsFit (g ∷ gs) → SegmentsHeld t i (g ∷ gs) → record_segment t i ≡ g
unfolding SegmentsFit SegmentsHeld record_segment items_in natural after_segment
segment_back t i g gs f h =
    let x = i + 1 + records g.items in
    rw (h.0.place, h.0.size, h.0.start, h.0.next, items_back t g.items 3 (x - (i + 1)) (i + 1) x f.2 h.1 refl (omega arith))

-- Segments are read back from the records that hold them.
pub segments_back : (t : List ℤ) (gs : List Segment) (k i : ℕ) → SegmentsFit gs → SegmentsHeld t i gs → records_from i gs ≤ i + k
    → segments_from t k i (records_from i gs) ≡ gs
unfolding SegmentsFit SegmentsHeld records_from segments_from after_segment
segments_back t [] zero i f h b = refl
segments_back t [] (suc k) i f h b = rw (le-ltb i i (omega arith), segments_from)
segments_back t (g ∷ gs) zero i f h b = absurd (omega (arith, records_from_law (after_segment i g) gs))
segments_back t (g ∷ gs) (suc k) i f h b =
    let e = records_from (after_segment i g) gs in
    let ahead : i < e = omega (arith, records_from_law (after_segment i g) gs) in
    rw (lt-ltb i e ahead, segments_from, segment_back t i g gs f h, next_is h.0, segments_back t gs k (after_segment i g) f.3 h.2 (omega arith))
