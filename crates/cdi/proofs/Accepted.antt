-- A text that planning accepts, up to stage 12, describes segments that a plan can hold.
use mathlib.Core.Path.{◌≡◌, refl}
use mathlib.Core.List.{List, []}
use mathlib.Core.Bool.{Bool, true, false, ◌||◌}
use mathlib.Core.Option.{some}
use Prim.Native.Nat.{ℕ, suc, ◌≤◌}
use native.Mathlib.Numerals.{add-one}
use native.Mathlib.Omega.{arith}
use lib.ListN.{length, drop, length-drop}
use Rattle.cdi.specs.Lists.{ascii, any, same, among}
use Rattle.cdi.specs.Faults.{accepted}
use Rattle.cdi.specs.Text.{content}
use Rattle.cdi.specs.Markup.{progress}
use Rattle.cdi.specs.Tree.{Nodes, end, element, other, tree}
use Rattle.cdi.specs.Rows.{Row, row_of, document_row, data_names}
use Rattle.cdi.specs.Rules.{Before, nothing_before, behind, is_int, faults_in, element_faults}
use Rattle.cdi.specs.Table.{records_of}
use Rattle.cdi.specs.Planning.{items_of, segment_of, segments_in, Description, describe, cut, described}
use Rattle.cdi.proofs.Fit.{ItemsFit, SegmentsFit, Rising, Planable}
use Rattle.cdi.proofs.Quiet.{same_equal}
use Rattle.cdi.proofs.Stages.{content_short, Stages, stages}
use Rattle.cdi.proofs.Parts.{part_length, rising_part}
use Rattle.cdi.proofs.Places.{starts_rise, starts_few, node_places, tree_part, described_part, described_few, segments_length}
use Rattle.cdi.proofs.Depths.{Deep, tree_deep}
use Rattle.cdi.proofs.Ranges.{DataFits, judged, judged_other, kept, natural_within, kind_least, data_fits, segment_fits_law}

-- ── ranges ──

group_data : (n : List ℕ) → same n (ascii "group") ≡ true → among n data_names ≡ true
unfolding among any data_names
group_data n q = rw q

-- The data elements of a tree without faults are in their ranges.
items_fit : (r : Row) (in_int : Bool) (b : Before) (d : ℕ) (t : Nodes) → faults_in r in_int b t ≡ [] → Deep d t → ItemsFit d (items_of t)
unfolding items_of ItemsFit Deep
items_fit r in_int b d end e h = tt
items_fit r in_int b d (other p c following) e h = items_fit r in_int b d following (judged_other r in_int b p c following e) h
items_fit r in_int b d (element p n s kids following) e h =
    let j = judged e in
    by (same n (ascii "group")) refl (among n data_names) refl
    (items_fit (row_of n) (in_int || is_int n) nothing_before (suc d) kids j.inside h.1)
    (items_fit r in_int (behind r b n) d following j.others h.2)
  where
    fits : among n data_names ≡ true → DataFits n s
    fits f = data_fits p s n f (kept (judged e).own).rules

    by : (g : Bool) → same n (ascii "group") ≡ g → (a : Bool) → among n data_names ≡ a → ItemsFit (suc d) (items_of kids) → ItemsFit d (items_of following)
        → ItemsFit d (items_of (element p n s kids following))
    by true q a f k i =
        let g = fits (group_data n q) in
        let m = natural_within 1 2147483647 _ (g.replication q) in
        rw (q, add-one) (h.0, g.offset, m.0, m.1, k, i)
    by false q true f k i = rw (q, f) (h.0, kind_least n, (fits f).sized q, (fits f).offset, i)
    by false q false f k i = rw (q, f) i

-- The segments of a tree without faults are in their ranges.
segments_fit : (r : Row) (in_int : Bool) (b : Before) (t : Nodes) → faults_in r in_int b t ≡ [] → Deep 2 t → SegmentsFit (segments_in t)
unfolding segments_in segment_of SegmentsFit Deep
segments_fit r in_int b end e h = tt
segments_fit r in_int b (other p c following) e h = segments_fit r in_int b following (judged_other r in_int b p c following e) h
segments_fit r in_int b (element p n s kids following) e h =
    by (same n (ascii "segment")) refl (segments_fit r in_int (behind r b n) following (judged e).others h.2)
  where
    by : (g : Bool) → same n (ascii "segment") ≡ g → SegmentsFit (segments_in following) → SegmentsFit (segments_in (element p n s kids following))
    by true q i =
        let j = judged e in
        let rules = (kept j.own).rules in
        let f = segment_fits_law p s kids (rw (same_equal n (ascii "segment") q) at rules) in
        rw q (f.0, f.1, items_fit (row_of n) (in_int || is_int n) nothing_before 3 kids j.inside h.1, i)
    by false q i = rw q i

described_fits : (r : Row) (in_int : Bool) (b : Before) (t u : Nodes) → faults_in r in_int b u ≡ [] → Deep 1 u → SegmentsFit (describe t u).segments
unfolding describe SegmentsFit Deep
described_fits r in_int b t end e h = tt
described_fits r in_int b t (other p c following) e h = described_fits r in_int b t following (judged_other r in_int b p c following e) h
described_fits r in_int b t (element p n s kids following) e h =
    segments_fit (row_of n) (in_int || is_int n) nothing_before kids (judged e).inside h.1

-- ── the text ──

-- The elements of a text stand at places that rise.
pub text_rises : (b c : List ℕ) → content b ≡ some c → Rising 22 (node_places (tree (cut c)))
unfolding cut
text_rises b c e = rising_part 22 (tree_part (cut c)) (starts_rise 22 0 (drop 22 c) (omega (arith, length-drop 22 c, content_short b c e)))

few_records : (t : Nodes) → length (node_places t) ≤ 4096 → records_of (describe t t).segments ≤ 4095
few_records t l = rw segments_length (described_few t t 4095 l)

-- The segments that an accepted text describes can be held by a plan.
pub accepted_planable : (b : List ℕ) (d : Description) → described b ≡ accepted d → Planable d.segments
unfolding element_faults
accepted_planable b d e = by (stages b d e)
  where
    by : Stages b d → Planable d.segments
    by h =
        let cs = cut h.text in
        let t = tree cs in
        let few = starts_few (length h.text) (progress [] 0) cs h.marked (omega arith) in
        let deep = tree_deep (length h.text) (progress [] 0) cs h.marked in
        record {
          ranges = rw h.told at (described_fits document_row false nothing_before t t h.ruled deep);
          places = rw h.told at (rising_part 22 (described_part t t) (text_rises b h.text h.ends));
          records = rw h.told at (few_records t (omega (arith, few, part_length (tree_part cs))));
          keeps = h.keeps;
          counts = h.counts;
        }
