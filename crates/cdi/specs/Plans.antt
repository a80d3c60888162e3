-- "A table is a plan exactly if ..": which tables are plans, the segments that a plan describes, and locating in it.
use Rattle.std.specs.Prelude.{List, [], ◌∷◌, map, Bool, true, false, cond, ◌&&◌, ◌||◌, ℕ, zero, suc, ◌+◌, ◌*◌, ◌-◌, ◌/◌, ◌%◌, length, get_or, eqb, leb, ltb, ℤ, pos, neg_ℤ}
use Rattle.std.specs.Int.Signed.{lt_z}
use Rattle.cdi.specs.Limits.{first_line_length, deepest, most_variables, most_space, most_origin, most_replication, most_text_size, lowest_offset, highest_offset}
use Rattle.cdi.specs.Lists.{any}
use Rattle.cdi.specs.Faults.{Answer, accepted, refused, fault}
use Rattle.cdi.specs.Numbers.{within}
use Rattle.cdi.specs.Rules.{natural}
use Rattle.cdi.specs.Walk.{Items, no_items, variable, group, Segment, Step, steps, count, change, segment_steps, segment_keeps, Found, walk, total}
use Rattle.cdi.specs.Table.{same_number}

-- number f of record i, both counted from 0: all that reads a table reads it by this
unfoldable pub field : List ℤ → ℕ → ℕ → ℤ
field t i f = get_or t (i * 8 + f) (pos 0)

abbrev pub kind_of : List ℤ → ℕ → ℕ
kind_of t i = natural (field t i 0)

abbrev pub place_of : List ℤ → ℕ → ℕ
place_of t i = natural (field t i 1)

-- origin or offset
abbrev pub start_of : List ℤ → ℕ → ℤ
start_of t i = field t i 2

-- space or size
abbrev pub extra_of : List ℤ → ℕ → ℕ
extra_of t i = natural (field t i 3)

abbrev pub replication_of : List ℤ → ℕ → ℕ
replication_of t i = natural (field t i 4)

abbrev pub next_of : List ℤ → ℕ → ℕ
next_of t i = natural (field t i 5)

-- ── "kinds, sizes, offsets, origins, spaces and replications are in the ranges above" ──

unfoldable pub one_of : List ℕ → ℤ → Bool
one_of ns z = any (λ n. same_number z (pos n)) ns

-- of a group, an int, a string, an eventid, a float; any other kind has none
unfoldable pub size_fits : ℕ → ℤ → Bool
size_fits k z =
    cond (eqb k 2) (one_of (0 ∷ []) z)
    (cond (eqb k 3) (one_of (1 ∷ 2 ∷ 4 ∷ 8 ∷ []) z)
    (cond (eqb k 4) (within (pos 1) (pos most_text_size) z)
    (cond (eqb k 5) (one_of (8 ∷ []) z)
    (cond (eqb k 6) (one_of (2 ∷ 4 ∷ 8 ∷ []) z) false))))

unfoldable pub offset_fits : ℤ → Bool
offset_fits z = within (neg_ℤ (pos lowest_offset)) (pos highest_offset) z

-- "replication is 1 but for groups"
unfoldable pub replication_fits : ℕ → ℤ → Bool
replication_fits k z = cond (eqb k 2) (within (pos 1) (pos most_replication) z) (one_of (1 ∷ []) z)

-- "places rise strictly, from 22 to 65,534"
unfoldable pub place_fits : List ℤ → ℕ → Bool
place_fits t i = within (pos first_line_length) (pos 65534) (field t i 1) && (eqb i 0 || lt_z (field t (i - 1) 1) (field t i 1))

-- "only segments and groups have subtrees, which nest": that of record i ends at e or before
unfoldable pub next_fits : Bool → ℕ → ℕ → ℤ → Bool
next_fits subtree i e z = cond subtree (within (pos (i + 1)) (pos e) z) (one_of ((i + 1) ∷ []) z)

-- a data element's record
unfoldable pub item_fits : List ℤ → ℕ → ℕ → Bool
item_fits t i e =
    size_fits (kind_of t i) (field t i 3)
    && (place_fits t i
    && (offset_fits (field t i 2)
    && (replication_fits (kind_of t i) (field t i 4)
    && next_fits (eqb (kind_of t i) 2) i e (field t i 5))))

-- a segment's record
unfoldable pub segment_fits : List ℤ → ℕ → ℕ → Bool
segment_fits t i e =
    eqb (kind_of t i) 1
    && (place_fits t i
    && (within (pos 0) (pos most_origin) (field t i 2)
    && (within (pos 0) (pos most_space) (field t i 3)
    && (replication_fits 1 (field t i 4)
    && next_fits true i e (field t i 5)))))

-- "the last two fields are what its own full walk gives"
unfoldable pub told : List ℤ → ℕ → List Step → Bool
told t i walked = same_number (field t i 6) (pos (count walked)) && same_number (field t i 7) (change walked)

-- ── the segments that the records describe ──

-- the element of record i with its members, before what follows it
unfoldable pub item_of : List ℤ → ℕ → Items → Items → Items
item_of t i members following =
    cond (eqb (kind_of t i) 2)
    (group (place_of t i) (start_of t i) (replication_of t i) members following)
    (variable (kind_of t i) (place_of t i) (start_of t i) (extra_of t i) following)

-- the elements of the records from i to before e. (k bounds the steps, and e - i are enough.)
unfoldable pub items_from : List ℤ → ℕ → ℕ → ℕ → Items
items_from t zero i e = no_items
items_from t (suc k) i e =
    let r = item_of t i (items_from t k (i + 1) (next_of t i)) (items_from t k (next_of t i) e) in
    cond (ltb i e) r no_items

unfoldable pub items_in : List ℤ → ℕ → ℕ → Items
items_in t i e = items_from t (e - i) i e

unfoldable pub record_segment : List ℤ → ℕ → Segment
record_segment t i = record { place = place_of t i; space = extra_of t i; origin = natural (start_of t i); items = items_in t (i + 1) (next_of t i) }

unfoldable pub segments_from : List ℤ → ℕ → ℕ → ℕ → List Segment
segments_from t zero i e = []
segments_from t (suc k) i e =
    let r = record_segment t i ∷ segments_from t k (next_of t i) e in
    cond (ltb i e) r []

unfoldable pub records_in : List ℤ → ℕ
records_in t = length t / 8

unfoldable pub segments_of : List ℤ → List Segment
segments_of t = segments_from t (records_in t) 0 (records_in t)

-- ── the plan ──

-- the records from i to before e are data elements at depth d, "nesting is at most depth 24 with the segment at 2"
unfoldable pub items_good : List ℤ → ℕ → ℕ → ℕ → ℕ → Bool
items_good t zero d i e = true
items_good t (suc k) d i e =
    let inside = items_good t k (d + 1) (i + 1) (next_of t i) in
    let tells = told t i (steps i (item_of t i (items_from t k (i + 1) (next_of t i)) no_items)) in
    let following = items_good t k d (next_of t i) e in
    let r = leb d deepest && (item_fits t i e && (inside && (tells && following))) in
    cond (ltb i e) r true

-- "segments and only segments are at the top": the records from i to before e
unfoldable pub segments_good : List ℤ → ℕ → ℕ → ℕ → Bool
segments_good t zero i e = true
segments_good t (suc k) i e =
    let inside = items_good t (next_of t i - (i + 1)) 3 (i + 1) (next_of t i) in
    let tells = told t i (segment_steps i (record_segment t i)) && segment_keeps i (record_segment t i) in
    let following = segments_good t k (next_of t i) e in
    let r = segment_fits t i e && (inside && (tells && following)) in
    cond (ltb i e) r true

-- "its length is a multiple of 8; it has at most 4,095 records; .. that walk keeps the address and count limits"
unfoldable pub is_plan : List ℤ → Bool
is_plan t =
    let good = segments_good t (records_in t) 0 (records_in t) in
    let counts = leb (total (segments_of t)) most_variables in
    eqb (length t % 8) 0 && (leb (records_in t) 4095 && (good && counts))

-- ── "Locating: 20 not a plan; 21 no variable n" ──

-- variable n of the full walk
unfoldable pub variable_of : List Segment → ℕ → Answer Found
variable_of gs n = get_or (map accepted (walk gs)) n (refused (fault 21 0))

unfoldable pub locating : List ℤ → ℕ → Answer Found
locating t n = let r = variable_of (segments_of t) n in cond (is_plan t) r (refused (fault 20 0))

unfoldable pub plans_page : Unit {0}
unfolding field one_of size_fits offset_fits replication_fits place_fits next_fits item_fits segment_fits told item_of items_from items_in record_segment segments_from records_in segments_of items_good segments_good is_plan variable_of locating
plans_page = tt
