-- At level 1: the segments, of which the records, the total and the first that leaves the addresses are known behind them.
use mathlib.Core.Path.{◌≡◌, refl, ap, ap₂, ◌∙◌}
use mathlib.Core.List.{List, [], ◌∷◌, ◌++◌}
use mathlib.Core.Bool.{Bool, true, false, cond, ◌||◌}
use mathlib.Core.Option.{Option, none, some}
use Prim.Native.Nat.{ℕ, ◌+◌, ◌*◌, ◌^◌, ◌≤◌, min}
use native.Mathlib.Omega.{arith}
use lib.IntN.{ℤ, pos}
use lib.Seq.{sets}
use Rattle.cdi.specs.Lists.{◌or_else◌}
use Rattle.cdi.specs.Faults.{Fault, fault}
use Rattle.cdi.specs.Pieces.{Attribute}
use Rattle.cdi.specs.Tree.{Nodes}
use Rattle.cdi.specs.Tree.Nodes.{end, element, other}
use Rattle.cdi.specs.Rows.{Row, row_of}
use Rattle.cdi.specs.Rules.{Before, nothing_before, behind, is_int, faults_in, rules_faults}
use Rattle.cdi.specs.Walk.{Step, Segment, records, steps, segment_steps, segment_keeps, after_segment, count_from}
use Rattle.cdi.specs.Table.{segment_records, records_from}
use Rattle.cdi.specs.Planning.{items_of, segment_of, segments_in, leaving}
use Rattle.cdi.proofs.Quiet.{impossible}
use Rattle.cdi.proofs.Ranges.{judged, judged_other, kept}
use Rattle.extent.specs.Reach.{extent_of, fits_at, held}
use Rattle.extent.specs.declared.Extent.{Extent}
use Rattle.extent.proofs.Holding.{held_keeps}
use Rattle.tally_tag.specs.Tallying.{Leaves, Tallied, as_fault, numbers_of, is_segment, kind_of, first_leaving, record_of, tally_nodes}
use Rattle.std.specs.Prelude.{Some, None}
use Rattle.tally.proofs.Levels.{tally, tallied, segment_tallied, aside_tallied}
use Rattle.tally.proofs.Tags.{origin_most, origin_told, space_told}
use Rattle.tally.proofs.Parts.{sets_three}
use Rattle.tally.proofs.Plain.{Plain, kept_spans, count_held}
use Rattle.tally.proofs.Rows.{held_fields, held_items, held_segments, length_held, Repeated, fields_told, items_told}
use Rattle.tally.proofs.Items.{items_tallied, items_repeated}

-- ── what is known behind segments, of which the first has record i ──

-- what is held of a segment's walk
unfoldable pub walked : ℕ → Segment → Extent
walked i g = held (extent_of (segment_steps i g))

-- the variables counted, after m
unfoldable pub held_total : ℕ → ℕ → List Segment → ℕ
held_total m i [] = m
held_total m i (g ∷ gs) = held_total (min (m + (walked i g).count) 1000001) (after_segment i g) gs

-- the first segment that leaves the addresses, where none before has
unfoldable pub first_of : Leaves → ℕ → List Segment → Leaves
first_of l i [] = l
first_of l i (g ∷ gs) = first_of (first_leaving (fits_at g.origin (walked i g)) g.place l) (after_segment i g) gs

-- ── the tree ──

record_segment : (e : Extent) (i j m : ℕ) (l : Leaves) (p : ℕ) (n : List ℕ) (s : List Attribute) (o z : ℕ) (ms : List Step)
    → (numbers_of n s).origin ≡ o → (numbers_of n s).space ≡ z
    → record_of (tally e 1 i m l) p n s (tally (held (extent_of ms)) 2 j m l) ≡ held_fields 1 p (pos o) z 1 j ms
unfolding record_of kind_of held_fields
record_segment e i j m l p n s o z ms a b = rw (a, b)

-- what is known behind these segments
abbrev after : Extent → ℕ → ℕ → Leaves → List ℤ → List Segment → Tallied
after e i m l t gs = tallied (tally e 1 (records_from i gs) (held_total m i gs) (first_of l i gs)) (sets t (i * 8) (held_segments i gs))

Told : Nodes → Type 0
Told u = (e : Extent) (i m : ℕ) (l : Leaves) (t : List ℤ) → tally_nodes (tally e 1 i m l) t u ≡ after e i m l t (segments_in u)

behind_segment : (e : Extent) (i m : ℕ) (l : Leaves) (t : List ℤ) (g : Segment) (gs : List Segment)
    → (let j = after_segment i g in
    let row = held_fields 1 g.place (pos g.origin) g.space 1 j (segment_steps i g) in
    after e j (min (m + (walked i g).count) 1000001) (first_leaving (fits_at g.origin (walked i g)) g.place l) (sets (sets t ((i + 1) * 8) (held_items (i + 1) g.items)) (i * 8) row) gs)
    ≡ after e i m l t (g ∷ gs)
unfolding records_from held_total first_of held_segments held_fields after_segment
behind_segment e i m l t g gs =
    let j = after_segment i g in
    let row = held_fields 1 g.place (pos g.origin) g.space 1 j (segment_steps i g) in
    ap (λ (v : List ℤ). tallied (tally e 1 (records_from i (g ∷ gs)) (held_total m i (g ∷ gs)) (first_of l i (g ∷ gs))) v)
    (sets_three t (i * 8) ((i + 1) * 8) (j * 8) row (held_items (i + 1) g.items) (held_segments j gs) (omega arith) (omega (arith, length_held (i + 1) g.items)))

module _ (p : ℕ) (n : List ℕ) (s : List Attribute) (kids following : Nodes) where
  segment_told : is_segment n ≡ true → rules_faults p (row_of n).attributes s ≡ [] → (in_int : Bool) → faults_in (row_of n) in_int nothing_before kids ≡ []
      → Told following → Told (element p n s kids following)
  unfolding Told segments_in is_segment segment_of segment_steps after_segment walked
  segment_told q f in_int k h e i m l t =
      let ms = steps (i + 1) (items_of kids) in
      let j = i + 1 + records (items_of kids) in
      let w = sets t ((i + 1) * 8) (held_items (i + 1) (items_of kids)) in
      let g = segment_of p s kids in
      let now = min (m + (held (extent_of ms)).count) 1000001 in
      rw q
      (segment_tallied e i m l t p n s kids following q (held (extent_of ms)) j w (items_tallied (row_of n) in_int nothing_before kids k (i + 1) m l t)
      ∙ ap₂ (λ (o : ℕ) (v : List ℤ). tally_nodes (tally e 1 j now (first_leaving (fits_at o (held (extent_of ms))) p l)) v following)
      (origin_told p n s kids q f)
      (ap (λ (v : List ℤ). sets w (i * 8) v) (record_segment e i j m l p n s g.origin g.space ms (origin_told p n s kids q f) (space_told p n s kids q f)))
      ∙ h e j now (first_leaving (fits_at g.origin (held (extent_of ms))) p l) (sets w (i * 8) (held_fields 1 p (pos g.origin) g.space 1 j ms))
      ∙ behind_segment e i m l t g (segments_in following))

  aside_told : is_segment n ≡ false → Told following → Told (element p n s kids following)
  unfolding Told segments_in is_segment
  aside_told q h e i m l t = rw q (aside_tallied e i m l t p n s kids following q ∙ h e i m l t)

told : (r : Row) (in_int : Bool) (b : Before) (u : Nodes) → faults_in r in_int b u ≡ [] → Told u
unfolding Told tally_nodes segments_in records_from held_total first_of held_segments
told r in_int b end h e i m l t = refl
told r in_int b (other p c following) h e i m l t = told r in_int b following (judged_other r in_int b p c following h) e i m l t
told r in_int b (element p n s kids following) h e i m l t =
    let j = judged h in
    by (is_segment n) refl (told r in_int (behind r b n) following j.others) e i m l t
  where
    by : (g : Bool) → is_segment n ≡ g → Told following → Told (element p n s kids following)
    by true q k = let j = judged h in segment_told p n s kids following q (kept j.own).rules (in_int || is_int n) j.inside k
    by false q k = aside_told p n s kids following q k

-- Behind the segments of a root without faults their records are written, and what is known of them is what is held of their walks.
pub segments_tallied : (r : Row) (in_int : Bool) (b : Before) (u : Nodes) → faults_in r in_int b u ≡ [] → (e : Extent) (i m : ℕ) (l : Leaves) (t : List ℤ)
    → tally_nodes (tally e 1 i m l) t u
    ≡ tallied (tally e 1 (records_from i (segments_in u)) (held_total m i (segments_in u)) (first_of l i (segments_in u))) (sets t (i * 8) (held_segments i (segments_in u)))
unfolding Told
segments_tallied r in_int b u h = told r in_int b u h

-- ── segments in their ranges ──

-- what a tree without faults makes sure of: origins and replications in their ranges
unfoldable pub Ranged : List Segment → Type 0
Ranged [] = Unit
Ranged (g ∷ gs) = (g.origin ≤ 2 ^ 32) × Repeated g.items × Ranged gs

-- The segments of a tree without faults are in their ranges.
pub segments_ranged : (r : Row) (in_int : Bool) (b : Before) (u : Nodes) → faults_in r in_int b u ≡ [] → Ranged (segments_in u)
unfolding segments_in Ranged is_segment
segments_ranged r in_int b end h = tt
segments_ranged r in_int b (other p c following) h = segments_ranged r in_int b following (judged_other r in_int b p c following h)
segments_ranged r in_int b (element p n s kids following) h = by (is_segment n) refl (segments_ranged r in_int (behind r b n) following (judged h).others)
  where
    items : Repeated (segment_of p s kids).items
    items = unfold segment_of in items_repeated (row_of n) (in_int || is_int n) nothing_before kids (judged h).inside

    by : (g : Bool) → is_segment n ≡ g → Ranged (segments_in following) → Ranged (segments_in (element p n s kids following))
    by true q k = rw q (omega (arith, origin_most p n s kids q (kept (judged h).own).rules), items, k)
    by false q k = rw q k

-- ── what is held of segments in their ranges is what they are ──

first_told : (k : Bool) (p : ℕ) (l : Leaves) (o : Option Fault) → (as_fault (first_leaving k p l) or_else o) ≡ (as_fault l or_else cond k o (some (fault 11 p)))
unfolding as_fault first_leaving
first_told true p None o = refl
first_told false p None o = refl
first_told k p (Some q) o = refl

-- The first segment that is found to leave the addresses is the one that does.
pub leaves_told : (l : Leaves) (i : ℕ) (gs : List Segment) → Ranged gs → as_fault (first_of l i gs) ≡ (as_fault l or_else leaving i gs)
unfolding as_fault first_of leaving Ranged segment_keeps walked
leaves_told None i [] h = refl
leaves_told (Some q) i [] h = refl
leaves_told l i (g ∷ gs) h =
    let fits = fits_at g.origin (walked i g) in
    rw (held_keeps g.origin h.0 (segment_steps i g))
    (leaves_told (first_leaving fits g.place l) (after_segment i g) gs h.2 ∙ first_told fits g.place l (leaving (after_segment i g) gs))

split : (k : Bool) (o : Option Fault) (f : Fault) → cond k o (some f) ≡ none → (k ≡ true) × (o ≡ none)
split true o f e = (refl, e)
split false o f e = impossible (cc)

module _ (i : ℕ) (g : Segment) (gs : List Segment) (h : leaving i (g ∷ gs) ≡ none) where
  first_keeps : segment_keeps i g ≡ true
  unfolding leaving
  first_keeps = (split _ _ _ h).0

  others_keep : leaving (after_segment i g) gs ≡ none
  unfolding leaving
  others_keep = (split (segment_keeps i g) _ _ h).1

  first_spans : g.origin ≤ 2 ^ 32 → (extent_of (segment_steps i g)).span ≤ 2 ^ 32
  unfolding segment_keeps
  first_spans b = kept_spans g.origin (segment_steps i g) b first_keeps

-- The total that is held of segments that keep the addresses is their own, up to 1,000,001.
pub total_told : (m i : ℕ) (gs : List Segment) → Ranged gs → leaving i gs ≡ none → m ≤ 1000001 → held_total m i gs ≡ min (m + count_from i gs) 1000001
unfolding held_total count_from Ranged walked
total_told m i [] r h b = omega arith
total_told m i (g ∷ gs) r h b =
    total_told (min (m + (walked i g).count) 1000001) (after_segment i g) gs r.2 (others_keep i g gs h) (omega arith)
    ∙ rw (count_held (segment_steps i g) (first_spans i g gs h r.0)) (omega arith)

-- The records of segments that keep the addresses, with at most 1,000,000 variables, are those of the table.
pub table_told : (i : ℕ) (gs : List Segment) → Ranged gs → leaving i gs ≡ none → count_from i gs ≤ 1000000 → held_segments i gs ≡ segment_records i gs
unfolding held_segments segment_records count_from Ranged
table_told i [] r h b = refl
table_told i (g ∷ gs) r h b =
    let plain : Plain (segment_steps i g) = record { spans = first_spans i g gs h r.0; counts = omega arith } in
    ap₂ ◌++◌ (fields_told 1 g.place (pos g.origin) g.space 1 (after_segment i g) (segment_steps i g) plain)
    (ap₂ ◌++◌ (items_told (i + 1) g.items r.1 (unfold segment_steps in plain))
    (table_told (after_segment i g) gs r.2 (others_keep i g gs h) (omega arith)))
