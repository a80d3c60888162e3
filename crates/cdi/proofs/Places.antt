-- Where the elements stand and how many there are: their places rise, and no more elements are begun than markup may hold.
use mathlib.Core.Path.{◌≡◌, refl}
use mathlib.Core.List.{List, [], ◌∷◌, ◌++◌, append_assoc}
use mathlib.Core.Bool.{Bool, true, false, ◌&&◌, not}
use Prim.Native.Nat.{ℕ, zero, suc, ◌+◌, ◌-◌, ◌≤◌, ◌<◌}
use native.Mathlib.Omega.{arith}
use borrow.Author.Tests.{ltb-true}
use lib.Dec.{ltb}
use lib.ListN.{length, length-append}
use Rattle.cdi.specs.Lists.{ascii, same, among}
use Rattle.cdi.specs.Faults.{unless}
use Rattle.cdi.specs.Pieces.{Attribute, Piece, start, finish, remark, refer, text, malformed, unsupported, piece_at, pieces}
use Rattle.cdi.specs.Markup.{Progress, outside, refers, piece_faults, next, markup_faults}
use Rattle.cdi.specs.Tree.{Nodes, end, element, other, grow, levels, top, tree}
use Rattle.cdi.specs.Walk.{Segment, records}
use Rattle.cdi.specs.Walk as W
use Rattle.cdi.specs.Table.{records_from, records_of}
use Rattle.cdi.specs.Rows.{data_names}
use Rattle.cdi.specs.Planning.{items_of, segment_of, segments_in, describe}
use Rattle.cdi.proofs.Fit.{item_places, segment_places, Rising}
use Rattle.cdi.proofs.Parts.{Part, nothing, keep, skip, part_nothing, part_self, part_append, part_behind, part_before, part_part, part_length, rising_from, rising_part}
use Rattle.cdi.proofs.Quiet.{empty_left, empty_right, passed}
use Rattle.cdi.proofs.Tests.{both_left, both_right}

-- ── pieces ──

-- a piece at p before what is begun at ps: a start tag begins an element
beginning : ℕ → Piece → List ℕ → List ℕ
beginning p (start n s e) ps = p ∷ ps
beginning p (finish n) ps = ps
beginning p remark ps = ps
beginning p (refer c) ps = ps
beginning p (text s) ps = ps
beginning p malformed ps = ps
beginning p unsupported ps = ps

-- the places of the start tags
pub start_places : List (ℕ × Piece) → List ℕ
start_places [] = []
start_places (c ∷ cs) = beginning c.0 c.1 (start_places cs)

beginning_part : (p : ℕ) (c : Piece) (ps : List ℕ) → Part (beginning p c ps) (p ∷ ps)
unfolding beginning
beginning_part p (start n s e) ps = part_self (p ∷ ps)
beginning_part p (finish n) ps = skip (part_self ps)
beginning_part p remark ps = skip (part_self ps)
beginning_part p (refer c) ps = skip (part_self ps)
beginning_part p (text s) ps = skip (part_self ps)
beginning_part p malformed ps = skip (part_self ps)
beginning_part p unsupported ps = skip (part_self ps)

one_more : (lo at k : ℕ) (c : Piece) (ps : List ℕ) → lo ≤ at → at ≤ 65534 → Rising (at + 1 + k) ps → Rising lo (beginning at c ps)
unfolding Rising
one_more lo at k c ps l m h = rising_part lo (beginning_part at c ps) (l, m, rising_from (at + 1 + k) (at + 1) ps (omega arith) h)

-- The start tags of a text that ends at 65,535 or before stand at places that rise.
pub starts_rise : (at k : ℕ) (s : List ℕ) → at + length s ≤ 65535 → Rising (at + k) (start_places (pieces at k s))
unfolding pieces start_places Rising
starts_rise at k [] l = tt
starts_rise at (suc k) (x ∷ s) l = rising_from (at + 1 + k) (at + suc k) (start_places (pieces (at + 1) k s)) (omega arith) (starts_rise (at + 1) k s (omega arith))
starts_rise at zero (x ∷ s) l =
    let k = length s - length (piece_at at (x ∷ s)).1 in
    one_more (at + 0) at k (piece_at at (x ∷ s)).0 (start_places (pieces (at + 1) k s)) (omega arith) (omega arith) (starts_rise (at + 1) k s (omega arith))

-- A start tag without faults stands above depth 25 and before element 4,097.
pub start_fits : (r : Progress) (p : ℕ) (n : List ℕ) (s : List Attribute) (e : Bool) → piece_faults r p (start n s e) ≡ [] → (length r.names < 24) × (r.begun < 4096)
unfolding piece_faults
start_fits r p n s e q =
    let h = passed _ _ (empty_right (unless (not (outside r && ltb 0 r.begun)) _) _ (empty_right (unless (not (refers s)) _) _ q)) in
    (ltb-true _ _ (both_left _ _ h), ltb-true _ _ (both_right (ltb (length r.names) 24) _ h))

one_begun : (r : Progress) (p : ℕ) (c : Piece) (ps : List ℕ) → piece_faults r p c ≡ [] → r.begun ≤ 4096
    → ((next r c).begun ≤ 4096) × (r.begun + length (beginning p c ps) ≡ (next r c).begun + length ps)
unfolding next beginning
one_begun r p (start n s e) ps q l = (omega (arith, (start_fits r p n s e q).1), omega arith)
one_begun r p (finish n) ps q l = (l, refl)
one_begun r p remark ps q l = (l, refl)
one_begun r p (refer c) ps q l = (l, refl)
one_begun r p (text s) ps q l = (l, refl)
one_begun r p malformed ps q l = (l, refl)
one_begun r p unsupported ps q l = (l, refl)

-- Markup without faults begins at most 4,096 elements.
pub starts_few : (stop : ℕ) (r : Progress) (cs : List (ℕ × Piece)) → markup_faults stop r cs ≡ [] → r.begun ≤ 4096 → r.begun + length (start_places cs) ≤ 4096
unfolding markup_faults start_places
starts_few stop r [] e l = omega arith
starts_few stop r (c ∷ cs) e l =
    let h = one_begun r c.0 c.1 (start_places cs) (empty_left _ _ e) l in
    omega (arith, h.1, starts_few stop (next r c.1) cs (empty_right (piece_faults r c.0 c.1) _ e) h.0)

-- ── the tree ──

-- the places of all elements, in document order
unfoldable pub node_places : Nodes → List ℕ
node_places end = []
node_places (other p c following) = node_places following
node_places (element p n s kids following) = p ∷ (node_places kids ++ node_places following)

level_places : List Nodes → List ℕ
level_places [] = []
level_places (f ∷ fs) = node_places f ++ level_places fs

grow_part : (p : ℕ) (c : Piece) (fs : List Nodes) (ps : List ℕ) → Part (level_places fs) ps → Part (level_places (grow p c fs)) (beginning p c ps)
unfolding grow level_places node_places beginning
grow_part p c [] ps h = part_nothing (beginning p c ps)
grow_part p (start n s true) (f ∷ fs) ps h = keep h
grow_part p (start n s false) (f ∷ []) ps h = skip h
grow_part p (start n s false) (kids ∷ f ∷ fs) ps h = rw append_assoc (keep h)
grow_part p (finish n) (f ∷ fs) ps h = h
grow_part p remark (f ∷ fs) ps h = h
grow_part p (refer c) (f ∷ fs) ps h = h
grow_part p (text s) (f ∷ fs) ps h = h
grow_part p malformed (f ∷ fs) ps h = h
grow_part p unsupported (f ∷ fs) ps h = h

levels_part : (cs : List (ℕ × Piece)) → Part (level_places (levels cs)) (start_places cs)
unfolding levels level_places node_places start_places
levels_part [] = nothing
levels_part (c ∷ cs) = grow_part c.0 c.1 (levels cs) (start_places cs) (levels_part cs)

top_part : (fs : List Nodes) → Part (node_places (top fs)) (level_places fs)
unfolding top level_places node_places
top_part [] = nothing
top_part (f ∷ fs) = part_before (level_places fs) (part_self (node_places f))

-- The elements of a tree stand where its start tags do, in their order.
pub tree_part : (cs : List (ℕ × Piece)) → Part (node_places (tree cs)) (start_places cs)
unfolding tree
tree_part cs = part_part (top_part (levels cs)) (levels_part cs)

-- ── what the tree describes ──

items_part : (t : Nodes) → Part (item_places (items_of t)) (node_places t)
unfolding items_of item_places node_places
items_part end = nothing
items_part (other p c following) = items_part following
items_part (element p n s kids following) = by (same n (ascii "group")) refl (among n data_names) refl (items_part kids) (items_part following)
  where
    by : (b : Bool) → same n (ascii "group") ≡ b → (d : Bool) → among n data_names ≡ d → Part (item_places (items_of kids)) (node_places kids)
        → Part (item_places (items_of following)) (node_places following) → Part (item_places (items_of (element p n s kids following))) (node_places (element p n s kids following))
    by true e d f k h = rw e (keep (part_append k h))
    by false e true f k h = rw (e, f) (keep (part_behind (node_places kids) h))
    by false e false f k h = rw (e, f) (skip (part_behind (node_places kids) h))

segments_part : (t : Nodes) → Part (segment_places (segments_in t)) (node_places t)
unfolding segments_in segment_of segment_places node_places
segments_part end = nothing
segments_part (other p c following) = segments_part following
segments_part (element p n s kids following) = by (same n (ascii "segment")) refl (segments_part following)
  where
    by : (b : Bool) → same n (ascii "segment") ≡ b → Part (segment_places (segments_in following)) (node_places following)
        → Part (segment_places (segments_in (element p n s kids following))) (node_places (element p n s kids following))
    by true e h = rw e (keep (part_append (items_part kids) h))
    by false e h = rw e (skip (part_behind (node_places kids) h))

-- The records of a description stand at places of elements, in their order.
pub described_part : (t u : Nodes) → Part (segment_places (describe t u).segments) (node_places u)
unfolding describe segment_places node_places
described_part t end = nothing
described_part t (other p c following) = described_part t following
described_part t (element p n s kids following) = skip (part_before (node_places following) (segments_part kids))

-- A description has fewer records than there are elements.
pub described_few : (t u : Nodes) (m : ℕ) → length (node_places u) ≤ suc m → length (segment_places (describe t u).segments) ≤ m
unfolding describe segment_places node_places
described_few t end m l = omega arith
described_few t (other p c following) m l = described_few t following m l
described_few t (element p n s kids following) m l = omega (arith, part_length (segments_part kids), length-append (node_places kids) (node_places following))

items_length : (i : W.Items) → records i ≡ length (item_places i)
unfolding records item_places
items_length W.no_items = refl
items_length (W.variable k p o n following) = omega (arith, items_length following)
items_length (W.group p o r members following) = omega (arith, items_length members, items_length following, length-append (item_places members) (item_places following))

records_length : (i : ℕ) (gs : List Segment) → records_from i gs ≡ i + length (segment_places gs)
unfolding records_from segment_places W.after_segment
records_length i [] = omega arith
records_length i (g ∷ gs) = omega (arith, records_length (W.after_segment i g) gs, items_length g.items, length-append (item_places g.items) (segment_places gs))

-- Segments have as many records as places.
pub segments_length : (gs : List Segment) → records_of gs ≡ length (segment_places gs)
unfolding records_of
segments_length gs = omega (arith, records_length 0 gs)
