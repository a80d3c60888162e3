-- The records as they are written, with what is held of each walk, and that they are those of the table.
use mathlib.Core.Path.{◌≡◌, refl, ap₂}
use mathlib.Core.List.{List, [], ◌∷◌, ◌++◌, append-nil}
use Prim.Native.Nat.{ℕ, ◌+◌, ◌*◌, ◌≤◌}
use native.Mathlib.Omega.{arith}
use lib.IntN.{ℤ, pos}
use lib.ListN.{length, length-append}
use Rattle.cdi.specs.Walk.{Items, Step, Segment, records, copies, steps, segment_steps, after_segment}
use Rattle.cdi.specs.Walk.Items.{no_items, variable, group}
use Rattle.cdi.specs.Walk.Step.{add, stand}
use Rattle.cdi.specs.Table.{fields, item_records}
use Rattle.extent.specs.Reach.{extent_of, held}
use Rattle.tally_tag.specs.Tallying.{change_of}
use Rattle.tally.proofs.Plain.{Plain, plain_first, plain_second, plain_copy, count_told, change_told}

-- a record, with what is held of what is walked
unfoldable pub held_fields : ℕ → ℕ → ℤ → ℕ → ℕ → ℕ → List Step → List ℤ
held_fields kind place start size replication next walked =
    let e = held (extent_of walked) in
    pos kind ∷ pos place ∷ start ∷ pos size ∷ pos replication ∷ pos next ∷ pos e.count ∷ change_of e ∷ []

-- the records of data elements, of which the first has number i
unfoldable pub held_items : ℕ → Items → List ℤ
held_items i no_items = []
held_items i (variable k p o n following) = held_fields k p o n 1 (i + 1) (steps i (variable k p o n no_items)) ++ held_items (i + 1) following
held_items i (group p o r members following) =
    held_fields 2 p o 0 r (i + 1 + records members) (steps i (group p o r members no_items))
    ++ (held_items (i + 1) members ++ held_items (i + 1 + records members) following)

-- the records of segments, of which the first has number i
unfoldable pub held_segments : ℕ → List Segment → List ℤ
held_segments i [] = []
held_segments i (g ∷ gs) =
    held_fields 1 g.place (pos g.origin) g.space 1 (after_segment i g) (segment_steps i g)
    ++ (held_items (i + 1) g.items ++ held_segments (after_segment i g) gs)

-- The records of data elements fill eight numbers each.
pub length_held : (i : ℕ) (s : Items) → length (held_items i s) ≡ 8 * records s
unfolding held_fields held_items records
length_held i no_items = refl
length_held i (variable k p o n following) = omega (arith, length_held (i + 1) following)
length_held i (group p o r members following) =
    simp length-append (omega (arith, length_held (i + 1) members, length_held (i + 1 + records members) following))

-- A record whose walk is plain is that of the table.
pub fields_told : (k p : ℕ) (o : ℤ) (n r x : ℕ) (s : List Step) → Plain s → held_fields k p o n r x s ≡ fields k p o n r x s
unfolding held_fields fields
fields_told k p o n r x s h = rw (change_told s h, count_told s h)

-- every replication is at least 1
unfoldable pub Repeated : Items → Type 0
Repeated no_items = Unit
Repeated (variable k p o n following) = Repeated following
Repeated (group p o r members following) = (1 ≤ r) × Repeated members × Repeated following

-- The records of data elements whose walk is plain are those of the table.
pub items_told : (i : ℕ) (s : Items) → Repeated s → Plain (steps i s) → held_items i s ≡ item_records i s
unfolding held_items item_records steps Repeated
items_told i no_items q h = refl
items_told i (variable k p o n following) q h =
    ap₂ ◌++◌
    (fields_told k p o n 1 (i + 1) _ (plain_first (add o ∷ stand k i n ∷ []) (steps (i + 1) following) h))
    (items_told (i + 1) following q (plain_second (add o ∷ stand k i n ∷ []) (steps (i + 1) following) h))
items_told i (group p o r members following) q h =
    let c = copies r (steps (i + 1) members) in
    let f = steps (i + 1 + records members) following in
    let own : Plain (add o ∷ c) = plain_first (add o ∷ c) f h in
    ap₂ ◌++◌
    (fields_told 2 p o 0 r (i + 1 + records members) _ (rw append-nil own))
    (ap₂ ◌++◌
    (items_told (i + 1) members q.1 (plain_copy r _ q.0 (plain_second (add o ∷ []) c own)))
    (items_told (i + 1 + records members) following q.2 (plain_second (add o ∷ c) f h)))
