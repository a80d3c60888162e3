-- What the table of segments holds, record by record, and how long it is.
use mathlib.Core.Path.{◌≡◌, refl, sym, ap, ◌∙◌}
use mathlib.Core.List.{List, [], ◌∷◌, ◌++◌, append_assoc, append-nil}
use Prim.Native.Nat.{ℕ, ◌+◌, ◌*◌}
use native.Mathlib.Omega.{arith}
use lib.ListN.{length, drop, get_or, length-append}
use lib.Seq.{get_or-drop, drop-drop, drop-append_seam}
use lib.IntN.{ℤ, pos}
use Rattle.cdi.specs.Walk.{Items, no_items, variable, group, Segment, records, steps, count, change, segment_steps, after_segment}
use Rattle.cdi.specs.Table.{fields, item_records, segment_records, records_from, table_of}
use Rattle.cdi.specs.Plans.{field}

-- ── lengths ──

length_items : (i : ℕ) (s : Items) → length (item_records i s) ≡ 8 * records s
unfolding fields item_records records
length_items i no_items = refl
length_items i (variable k p o n following) = omega (arith, length_items (i + 1) following)
length_items i (group p o r members following) =
    simp length-append (omega (arith, length_items (i + 1) members, length_items (i + 1 + records members) following))

-- The records from i on fill eight numbers each.
pub length_segments : (i : ℕ) (gs : List Segment) → 8 * i + length (segment_records i gs) ≡ 8 * records_from i gs
unfolding fields segment_records records_from after_segment
length_segments i [] = omega arith
length_segments i (g ∷ gs) =
    simp length-append (omega (arith, length_items (i + 1) g.items, length_segments (after_segment i g) gs))

-- ── records ──

-- record i of t has these fields
pub record Row (t : List ℤ) (i k p : ℕ) (o : ℤ) (n r x c : ℕ) (z : ℤ) : Type 0 where
  pub kind : field t i 0 ≡ pos k
  pub place : field t i 1 ≡ pos p
  pub start : field t i 2 ≡ o
  pub size : field t i 3 ≡ pos n
  pub replication : field t i 4 ≡ pos r
  pub next : field t i 5 ≡ pos x
  pub counted : field t i 6 ≡ pos c
  pub changed : field t i 7 ≡ z

-- the records of t from i on are those of the data elements
unfoldable pub ItemsHeld : List ℤ → ℕ → Items → Type 0
ItemsHeld t i no_items = Unit
ItemsHeld t i (variable k p o n following) =
    let w = steps i (variable k p o n no_items) in
    Row t i k p o n 1 (i + 1) (count w) (change w) × ItemsHeld t (i + 1) following
ItemsHeld t i (group p o r members following) =
    let w = steps i (group p o r members no_items) in
    Row t i 2 p o 0 r (i + 1 + records members) (count w) (change w)
    × ItemsHeld t (i + 1) members × ItemsHeld t (i + 1 + records members) following

-- the records of t from i on are those of the segments
unfoldable pub SegmentsHeld : List ℤ → ℕ → List Segment → Type 0
SegmentsHeld t i [] = Unit
SegmentsHeld t i (g ∷ gs) =
    let w = segment_steps i g in
    Row t i 1 g.place (pos g.origin) g.space 1 (after_segment i g) (count w) (change w)
    × ItemsHeld t (i + 1) g.items × SegmentsHeld t (after_segment i g) gs

-- the numbers xs stand in t from record i on
record Stands (t : List ℤ) (i : ℕ) (xs : List ℤ) : Type 0 where
  rest : List ℤ
  split : drop (i * 8) t ≡ xs ++ rest

module _ {t : List ℤ} {i : ℕ} where
  at : {xs : List ℤ} (f : ℕ) (h : Stands t i xs) → field t i f ≡ get_or (xs ++ h.rest) f (pos 0)
  unfolding field
  at f h = sym (get_or-drop (i * 8) t f (pos 0)) ∙ ap (λ (l : List ℤ). get_or l f (pos 0)) h.split

  module _ (xs ys : List ℤ) (h : Stands t i (xs ++ ys)) where
    parted : drop (i * 8) t ≡ xs ++ (ys ++ h.rest)
    parted = h.split ∙ append_assoc xs ys h.rest

    -- its first part stands there, and its second part n records on
    front : Stands t i xs
    front = record { rest = ys ++ h.rest; split = parted }

    behind : (n : ℕ) → length xs ≡ 8 * n → Stands t (i + n) ys
    behind n e =
        let sum : (i + n) * 8 ≡ i * 8 + length xs = omega arith in
        record {
          rest = h.rest;
          split = rw (sum, ← (drop-drop (length xs) (i * 8) t), parted) (drop-append_seam xs (ys ++ h.rest));
        }

  module _ {k p n r x c : ℕ} {o z : ℤ} {ys : List ℤ} (h : Stands t i (pos k ∷ pos p ∷ o ∷ pos n ∷ pos r ∷ pos x ∷ pos c ∷ z ∷ ys)) where
    row : Row t i k p o n r x c z
    row = record {
      kind = at 0 h;
      place = at 1 h;
      start = at 2 h;
      size = at 3 h;
      replication = at 4 h;
      next = at 5 h;
      counted = at 6 h;
      changed = at 7 h;
    }

    -- what stands behind a record
    others : Stands t (i + 1) ys
    others = behind (pos k ∷ pos p ∷ o ∷ pos n ∷ pos r ∷ pos x ∷ pos c ∷ z ∷ []) ys h 1 refl

items_held : (t : List ℤ) (i : ℕ) (s : Items) → Stands t i (item_records i s) → ItemsHeld t i s
unfolding item_records ItemsHeld fields
items_held t i no_items h = tt
items_held t i (variable k p o n following) h = (row h, items_held t (i + 1) following (others h))
items_held t i (group p o r members following) h =
    let kids = item_records (i + 1) members in
    let rest = item_records (i + 1 + records members) following in (
      row h,
      items_held t (i + 1) members (front kids rest (others h)),
      items_held t (i + 1 + records members) following (behind kids rest (others h) (records members) (length_items (i + 1) members)),
    )

segments_held : (t : List ℤ) (i : ℕ) (gs : List Segment) → Stands t i (segment_records i gs) → SegmentsHeld t i gs
unfolding segment_records SegmentsHeld fields after_segment
segments_held t i [] h = tt
segments_held t i (g ∷ gs) h =
    let kids = item_records (i + 1) g.items in
    let rest = segment_records (after_segment i g) gs in (
      row h,
      items_held t (i + 1) g.items (front kids rest (others h)),
      segments_held t (after_segment i g) gs (behind kids rest (others h) (records g.items) (length_items (i + 1) g.items)),
    )

-- The table of segments holds their records from the first on.
pub table_held : (gs : List Segment) → SegmentsHeld (table_of gs) 0 gs
unfolding table_of
table_held gs = segments_held (table_of gs) 0 gs (record { rest = []; split = sym (append-nil (table_of gs)) })
