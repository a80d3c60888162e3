-- The table of segments that planning accepts is a plan, and says of them what they are.
use mathlib.Core.Path.{◌≡◌, refl, ap₂}
use mathlib.Core.List.{List, [], ◌∷◌}
use mathlib.Core.Bool.{true, false≢true}
use Prim.Native.Nat.{ℕ, ◌*◌, ◌%◌}
use native.Mathlib.Omega.{arith}
use borrow.Author.Tests.{le-leb}
use lib.IntN.{ℤ}
use lib.ListN.{length}
use Rattle.cdi.specs.Walk.{Segment}
use Rattle.cdi.specs.Table.{table_of, records_of, same_number, same_table}
use Rattle.cdi.specs.Plans.{records_in, segments_of, is_plan, variable_of, locating}
use Rattle.cdi.proofs.Tests.{parts, both}
use Rattle.cdi.proofs.Signs.{same_number_law, number_same}
use Rattle.cdi.proofs.Fit.{Planable}
use Rattle.cdi.proofs.Held.{length_segments, table_held}
use Rattle.cdi.proofs.Decoded.{segments_back}
use Rattle.cdi.proofs.Good.{table_good}

-- A table has eight numbers for each record.
pub length_table : (gs : List Segment) → length (table_of gs) ≡ 8 * records_of gs
unfolding table_of records_of
length_table gs = omega (arith, length_segments 0 gs)

-- Tables that pass the test are the same.
pub same_table_law : (t u : List ℤ) → same_table t u ≡ true → t ≡ u
unfolding same_table
same_table_law [] [] h = refl
same_table_law [] (y ∷ u) h = absurd (false≢true h)
same_table_law (x ∷ t) [] h = absurd (false≢true h)
same_table_law (x ∷ t) (y ∷ u) h =
    let p = parts (same_number x y) (same_table t u) h in
    ap₂ (λ (z : ℤ) (s : List ℤ). z ∷ s) (same_number_law x y p.0) (same_table_law t u p.1)

-- A table passes the test with itself.
pub table_itself : (t : List ℤ) → same_table t t ≡ true
unfolding same_table
table_itself [] = refl
table_itself (x ∷ t) = both (number_same x) (table_itself t)

records_in_law : (gs : List Segment) → records_in (table_of gs) ≡ records_of gs
unfolding records_in
records_in_law gs = omega (arith, length_table gs)

-- The segments are read back from their table.
pub decodes : {gs : List Segment} → Planable gs → segments_of (table_of gs) ≡ gs
unfolding segments_of records_of
decodes {gs} h = rw (records_in_law gs) (segments_back (table_of gs) gs (records_of gs) 0 h.ranges (table_held gs) (omega arith))

-- The table is a plan.
pub is_plan_law : {gs : List Segment} → Planable gs → is_plan (table_of gs) ≡ true
unfolding is_plan
is_plan_law {gs} h =
    let whole : length (table_of gs) % 8 ≡ 0 = omega (arith, length_table gs) in
    rw (whole, records_in_law gs, decodes h, le-leb (records_of gs) 4095 h.records, table_good h) h.counts

-- The table locates the variables of the walk.
pub locates : {gs : List Segment} → Planable gs → (n : ℕ) → locating (table_of gs) n ≡ variable_of gs n
unfolding locating
locates h n = rw (is_plan_law h, decodes h)
