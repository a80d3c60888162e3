-- Segments that a plan can hold: what planning makes sure of, and what makes their table a plan.
use mathlib.Core.Path.{◌≡◌}
use mathlib.Core.List.{List, [], ◌∷◌, ◌++◌}
use mathlib.Core.Bool.{true}
use mathlib.Core.Option.{none}
use Prim.Native.Nat.{ℕ, ◌+◌, ◌≤◌}
use lib.IntN.{pos}
use lib.Dec.{leb}
use Rattle.cdi.specs.Walk.{Items, no_items, variable, group, Segment, total}
use Rattle.cdi.specs.Table.{records_of}
use Rattle.cdi.specs.Plans.{size_fits, offset_fits}
use Rattle.cdi.specs.Planning.{leaving}

-- data elements at depth d, in the ranges of document 01
unfoldable pub ItemsFit : ℕ → Items → Type 0
ItemsFit d no_items = Unit
ItemsFit d (variable k p o n following) = (d ≤ 24) × (3 ≤ k) × (size_fits k (pos n) ≡ true) × (offset_fits o ≡ true) × ItemsFit d following
ItemsFit d (group p o r members following) =
    (d ≤ 24) × (offset_fits o ≡ true) × (1 ≤ r) × (r ≤ 2147483647) × ItemsFit (d + 1) members × ItemsFit d following

-- a segment stands at depth 2
unfoldable pub SegmentsFit : List Segment → Type 0
SegmentsFit [] = Unit
SegmentsFit (g ∷ gs) = (g.origin ≤ 2147483647) × (g.space ≤ 255) × ItemsFit 3 g.items × SegmentsFit gs

-- the places of the records, in their order
unfoldable pub item_places : Items → List ℕ
item_places no_items = []
item_places (variable k p o n following) = p ∷ item_places following
item_places (group p o r members following) = p ∷ (item_places members ++ item_places following)

unfoldable pub segment_places : List Segment → List ℕ
segment_places [] = []
segment_places (g ∷ gs) = g.place ∷ (item_places g.items ++ segment_places gs)

-- places that rise strictly, from lo to 65,534
unfoldable pub Rising : ℕ → List ℕ → Type 0
Rising lo [] = Unit
Rising lo (p ∷ ps) = (lo ≤ p) × (p ≤ 65534) × Rising (p + 1) ps

pub record Planable (gs : List Segment) : Type 0 where
  pub ranges : SegmentsFit gs
  pub places : Rising 22 (segment_places gs)
  pub records : records_of gs ≤ 4095
  pub keeps : leaving 0 gs ≡ none
  pub counts : leb (total gs) 1000000 ≡ true
