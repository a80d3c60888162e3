-- The whole text: the fold over a tree without faults of stages 8 to 10 gives what the definitions say of its segments.
use mathlib.Core.Path.{◌≡◌, refl, ap, ◌∙◌}
use mathlib.Core.List.{List, []}
use mathlib.Core.Bool.{Bool, ◌||◌}
use mathlib.Core.Option.{none}
use Prim.Native.Nat.{◌≤◌, min}
use native.Mathlib.Omega.{arith}
use lib.IntN.{ℤ}
use lib.Seq.{sets}
use Rattle.cdi.specs.Tree.{Nodes}
use Rattle.cdi.specs.Tree.Nodes.{end, element, other}
use Rattle.cdi.specs.Rows.{Row, row_of, document_row}
use Rattle.cdi.specs.Rules.{Before, nothing_before, is_int, faults_in, element_faults}
use Rattle.cdi.specs.Walk.{Segment, total}
use Rattle.cdi.specs.Table.{table_of, records_from, records_of}
use Rattle.cdi.specs.Planning.{describe, leaving}
use Rattle.cdi.proofs.Ranges.{judged, judged_other}
use Rattle.extent.specs.Reach.{nowhere}
use Rattle.std.specs.Prelude.{None}
use Rattle.tally_tag.specs.Tallying.{Tallied, as_fault, tally_nodes, at_start}
use Rattle.tally.proofs.Levels.{tally, root_tallied}
use Rattle.tally.proofs.Rows.{held_segments}
use Rattle.tally.proofs.Segments.{held_total, first_of, segments_tallied, Ranged, segments_ranged, leaves_told, total_told, table_told}

-- what is known behind a text that describes these segments, as it is held
record Described (t : List ℤ) (gs : List Segment) (r : Tallied) : Type 0 where
  ranged : Ranged gs
  records : r.tally.records ≡ records_from 0 gs
  total : r.tally.total ≡ held_total 0 0 gs
  leaves : r.tally.leaves ≡ first_of None 0 gs
  table : r.table ≡ sets t 0 (held_segments 0 gs)

described : (r : Row) (in_int : Bool) (b : Before) (t : List ℤ) (v u : Nodes) → faults_in r in_int b u ≡ [] → Described t (describe v u).segments (tally_nodes at_start t u)
unfolding tally_nodes at_start describe Ranged records_from held_total first_of held_segments
described r in_int b t v end h = record { ranged = tt; records = refl; total = refl; leaves = refl; table = refl }
described r in_int b t v (other p c following) h = described r in_int b t v following (judged_other r in_int b p c following h)
described r in_int b t v (element p n s kids following) h =
    let k = (judged h).inside in
    let e = root_tallied nowhere 0 0 None t p n s kids following _ _ _ _ _ (segments_tallied (row_of n) (in_int || is_int n) nothing_before kids k nowhere 0 0 None t) in
    record {
      ranged = segments_ranged (row_of n) (in_int || is_int n) nothing_before kids k;
      records = ap (λ (r : Tallied). r.tally.records) e;
      total = ap (λ (r : Tallied). r.tally.total) e;
      leaves = ap (λ (r : Tallied). r.tally.leaves) e;
      table = ap (λ (r : Tallied). r.table) e;
    }

module _ (t : List ℤ) (u : Nodes) (h : element_faults u ≡ []) where
  found : Described t (describe u u).segments (tally_nodes at_start t u)
  unfolding element_faults
  found = described document_row _ nothing_before t u u h

  -- The fold counts the records that the text describes.
  pub records_tallied : (tally_nodes at_start t u).tally.records ≡ records_of (describe u u).segments
  unfolding records_of
  records_tallied = found.records

  -- The fold finds the first segment that leaves the addresses.
  pub leaves_tallied : as_fault (tally_nodes at_start t u).tally.leaves ≡ leaving 0 (describe u u).segments
  unfolding as_fault
  leaves_tallied = ap as_fault found.leaves ∙ leaves_told None 0 _ found.ranged

  module _ (k : leaving 0 (describe u u).segments ≡ none) where
    -- The fold counts the variables where no segment leaves the addresses, up to 1,000,001.
    pub total_tallied : (tally_nodes at_start t u).tally.total ≡ min (total (describe u u).segments) 1000001
    unfolding total
    total_tallied = found.total ∙ total_told 0 0 _ found.ranged k (omega arith) ∙ omega arith

    -- The fold writes the table where no segment leaves the addresses and there are at most 1,000,000 variables.
    pub table_tallied : total (describe u u).segments ≤ 1000000 → (tally_nodes at_start t u).table ≡ sets t 0 (table_of (describe u u).segments)
    unfolding total table_of
    table_tallied m = found.table ∙ ap (λ (v : List ℤ). sets t 0 v) (table_told 0 _ found.ranged k m)
