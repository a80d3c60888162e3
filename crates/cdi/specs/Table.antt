-- "The table holds eight signed 64-bit numbers per record, one record for each segment and data element in document order."
use Rattle.std.specs.Prelude.{List, [], ◌∷◌, ◌++◌, Bool, true, false, ◌&&◌, ℕ, ◌+◌, ℤ, pos, negsuc, eqb}
use Rattle.cdi.specs.Walk.{Items, no_items, variable, group, Segment, records, Step, steps, count, change, segment_steps, after_segment}

-- "kind (1 segment, 2 group, 3 int, 4 string, 5 eventid, 6 float); place of its `<`; origin or offset; space, 0 for a group, or size; replication
-- or 1; number of the record after its subtree; variables in all copies; change of the current address over all copies, its own offset included"
unfoldable pub fields : ℕ → ℕ → ℤ → ℕ → ℕ → ℕ → List Step → List ℤ
fields kind place start size replication next walked =
    pos kind ∷ pos place ∷ start ∷ pos size ∷ pos replication ∷ pos next ∷ pos (count walked) ∷ change walked ∷ []

-- the records of data elements, of which the first has number i
unfoldable pub item_records : ℕ → Items → List ℤ
item_records i no_items = []
item_records i (variable k p o n following) = fields k p o n 1 (i + 1) (steps i (variable k p o n no_items)) ++ item_records (i + 1) following
item_records i (group p o r members following) =
    fields 2 p o 0 r (i + 1 + records members) (steps i (group p o r members no_items))
    ++ (item_records (i + 1) members ++ item_records (i + 1 + records members) following)

-- "for a segment, last address minus origin"
unfoldable pub segment_records : ℕ → List Segment → List ℤ
segment_records i [] = []
segment_records i (g ∷ gs) =
    fields 1 g.place (pos g.origin) g.space 1 (after_segment i g) (segment_steps i g)
    ++ (item_records (i + 1) g.items ++ segment_records (after_segment i g) gs)

unfoldable pub table_of : List Segment → List ℤ
table_of gs = segment_records 0 gs

-- the number of records from record i on, and i
unfoldable pub records_from : ℕ → List Segment → ℕ
records_from i [] = i
records_from i (g ∷ gs) = records_from (after_segment i g) gs

unfoldable pub records_of : List Segment → ℕ
records_of gs = records_from 0 gs

-- two numbers, and two tables, are the same
unfoldable pub same_number : ℤ → ℤ → Bool
same_number (pos m) (pos n) = eqb m n
same_number (pos m) (negsuc n) = false
same_number (negsuc m) (pos n) = false
same_number (negsuc m) (negsuc n) = eqb m n

unfoldable pub same_table : List ℤ → List ℤ → Bool
same_table [] [] = true
same_table [] (y ∷ t) = false
same_table (x ∷ s) [] = false
same_table (x ∷ s) (y ∷ t) = same_number x y && same_table s t

unfoldable pub table_page : Unit {0}
unfolding fields item_records segment_records table_of records_from records_of same_number same_table
table_page = tt
