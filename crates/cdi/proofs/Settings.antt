-- A variable as its table and its text describe it: its kind, its size, and the bounds of an int.
use mathlib.Core.Path.{◌≡◌, refl, ap, sym, ◌∙◌}
use mathlib.Core.List.{List, []}
use mathlib.Core.Bool.{Bool, true, false, cond, ◌||◌, or-true}
use mathlib.Core.Option.{some}
use Prim.Native.Nat.{ℕ, ◌+◌, ◌≤◌}
use native.Mathlib.Omega.{arith}
use lib.IntN.{ℤ, pos}
use Rattle.cdi.specs.Lists.{ascii, given, is_some, same, among, lists_page}
use Rattle.cdi.specs.Faults.{fault, Answer, accepted}
use Rattle.cdi.specs.Pieces.{Attribute, Piece}
use Rattle.cdi.specs.Tree.{Nodes, end, element, other, tree}
use Rattle.cdi.specs.Rows.{Row, row_of, document_row, data_names}
use Rattle.cdi.specs.Rules.{Before, nothing_before, behind, is_int, own_faults, faults_in, element_faults, natural}
use Rattle.cdi.specs.Walk as W
use Rattle.cdi.specs.Walk.{records, steps, segment_steps, after_segment, Found}
use Rattle.cdi.specs.Table.{table_of, same_table}
use Rattle.cdi.specs.Plans.{place_of, size_fits, variable_of}
use Rattle.cdi.specs.Planning.{variable_kind, variable_size, items_of, segment_of, segments_in, Description, describe, cut, described}
use Rattle.cdi.specs.Access.{content_at, Setting, exact, setting_in, setting_of}
use Rattle.cdi.proofs.Fit.{Rising}
use Rattle.cdi.proofs.Quiet.{same_equal, through, test_passed}
use Rattle.cdi.proofs.Parts.{skip, part_self, part_before, part_behind, rising_part}
use Rattle.cdi.proofs.Places.{node_places}
use Rattle.cdi.proofs.Ranges.{judged, judged_other, kept, kind_least, data_fits}
use Rattle.cdi.proofs.Bounds.{Bounded, int_bounded}
use Rattle.cdi.proofs.Stands.{AllStand, stand_append, stand_copies, SegmentsStand, stand_found}
use Rattle.cdi.proofs.Contents.{Finds, finds_here, finds_inside, finds_behind}
use Rattle.cdi.proofs.Held.{ItemsHeld, SegmentsHeld, table_held}
use Rattle.cdi.proofs.PlanOf.{same_table_law}
use Rattle.cdi.proofs.Stages.{Stages, stages}
use Rattle.cdi.proofs.Accepted.{text_rises}
use Rattle.cdi.specs.Settings.{SettingFits}

-- ── parts of a tree ──

-- a part of the whole tree, by the row r and behind the children b: it has no fault, its places rise, and the whole finds what it finds
record Lies (whole : Nodes) (r : Row) (in_int : Bool) (b : Before) (t : Nodes) : Type 0 where
  clean : faults_in r in_int b t ≡ []
  rises : Rising 22 (node_places t)
  finds : Finds whole t

module _ {whole : Nodes} {r : Row} {in_int : Bool} {b : Before} {p : ℕ} where
  lies_other : {c : Piece} {following : Nodes} → Lies whole r in_int b (other p c following) → Lies whole r in_int b following
  unfolding node_places Finds content_at
  lies_other {c} {following} h = record { clean = judged_other r in_int b p c following h.clean; rises = h.rises; finds = h.finds }

  module _ {n : List ℕ} {s : List Attribute} {kids following : Nodes} (h : Lies whole r in_int b (element p n s kids following)) where
    lies_inside : Lies whole (row_of n) (in_int || is_int n) nothing_before kids
    unfolding node_places
    lies_inside = record {
      clean = (judged h.clean).inside;
      rises = rising_part 22 (skip (part_before (node_places following) (part_self (node_places kids)))) h.rises;
      finds = finds_inside whole p n s kids following 22 h.rises h.finds;
    }

    lies_behind : Lies whole r in_int (behind r b n) following
    unfolding node_places
    lies_behind = record {
      clean = (judged h.clean).others;
      rises = rising_part 22 (skip (part_behind (node_places kids) (part_self (node_places following)))) h.rises;
      finds = finds_behind whole p n s kids following 22 h.rises h.finds;
    }

-- ── variables ──

-- what holds of a variable of kind k, record j and size m
record VariableFits (t : List ℤ) (whole : Nodes) (k j m : ℕ) : Type 0 where
  kinds : 3 ≤ k
  sized : size_fits k (pos m) ≡ true
  content : Nodes
  stands : content_at (place_of t j) whole ≡ some content
  bounds : k ≡ 3 → Bounded m content

int_named : (n : List ℕ) → variable_kind n ≡ 3 → n ≡ ascii "int"
unfolding variable_kind
int_named n e = same_equal n (ascii "int") (by (same n (ascii "int")) (same n (ascii "string")) (same n (ascii "eventid")) e)
  where
    by : (i s v : Bool) → ◌≡◌ {A = ℕ} (cond i 3 (cond s 4 (cond v 5 6))) 3 → i ≡ true
    by true s v e = refl
    by false true v e = absurd (omega arith)
    by false false true e = absurd (omega arith)
    by false false false e = absurd (omega arith)

int_fits : (in_int : Bool) (p : ℕ) (n : List ℕ) (s : List Attribute) (kids : Nodes) → n ≡ ascii "int" → own_faults in_int p n s kids ≡ []
    → faults_in (row_of n) (in_int || is_int n) nothing_before kids ≡ [] → Bounded (variable_size n s) kids
unfolding variable_size is_int lists_page
int_fits in_int p n s kids q e i = rw q (int_bounded in_int p s kids (rw q at e) (rw (q, or-true) at i))

module _ (t : List ℤ) (whole : Nodes) where
  variable_fits : {r : Row} {in_int : Bool} {b : Before} {p : ℕ} {n : List ℕ} {s : List Attribute} {kids following : Nodes} (i : ℕ)
      → Lies whole r in_int b (element p n s kids following) → same n (ascii "group") ≡ false → among n data_names ≡ true → place_of t i ≡ p
      → VariableFits t whole (variable_kind n) i (variable_size n s)
  variable_fits {r} {in_int} {b} {p} {n} {s} {kids} {following} i h g d q =
      let j = judged h.clean in
      record {
        kinds = kind_least n;
        sized = (data_fits p s n d (kept j.own).rules).sized g;
        content = kids;
        stands = rw q (finds_here whole p n s kids following h.finds);
        bounds = λ k. int_fits in_int p n s kids (int_named n k) j.own j.inside;
      }

  items_stand : (r : Row) (in_int : Bool) (b : Before) (i : ℕ) (u : Nodes) → Lies whole r in_int b u → ItemsHeld t i (items_of u)
      → AllStand (VariableFits t whole) (steps i (items_of u))
  unfolding items_of ItemsHeld steps AllStand natural
  items_stand r in_int b i end h e = tt
  items_stand r in_int b i (other p c following) h e = items_stand r in_int b i following (lies_other h) e
  items_stand r in_int b i (element p n s kids following) h e =
      by (same n (ascii "group")) refl (among n data_names) refl
      (λ j. items_stand (row_of n) (in_int || is_int n) nothing_before j kids (lies_inside h))
      (λ j. items_stand r in_int (behind r b n) j following (lies_behind h))
    where
      by : (g : Bool) → same n (ascii "group") ≡ g → (a : Bool) → among n data_names ≡ a
          → ((j : ℕ) → ItemsHeld t j (items_of kids) → AllStand (VariableFits t whole) (steps j (items_of kids)))
          → ((j : ℕ) → ItemsHeld t j (items_of following) → AllStand (VariableFits t whole) (steps j (items_of following)))
          → AllStand (VariableFits t whole) (steps i (items_of (element p n s kids following)))
      by true q a f inside others =
          let rows = rw q at e in
          rw q (stand_append _ (W.copies _ (steps (i + 1) (items_of kids))) _ (stand_copies _ _ (steps (i + 1) (items_of kids)) (inside (i + 1) rows.1)) (others (i + 1 + records (items_of kids)) rows.2))
      by false q true f inside others =
          let rows = rw (q, f) at e in
          rw (q, f) (variable_fits i h q f (ap natural rows.0.place), others (i + 1) rows.1)
      by false q false f inside others = rw (q, f) (others i (rw (q, f) at e))

  segments_stand : (r : Row) (in_int : Bool) (b : Before) (i : ℕ) (u : Nodes) → Lies whole r in_int b u → SegmentsHeld t i (segments_in u)
      → SegmentsStand (VariableFits t whole) i (segments_in u)
  unfolding segments_in segment_of segment_steps SegmentsHeld SegmentsStand
  segments_stand r in_int b i end h e = tt
  segments_stand r in_int b i (other p c following) h e = segments_stand r in_int b i following (lies_other h) e
  segments_stand r in_int b i (element p n s kids following) h e =
      by (same n (ascii "segment")) refl (λ j. segments_stand r in_int (behind r b n) j following (lies_behind h))
    where
      by : (g : Bool) → same n (ascii "segment") ≡ g
          → ((j : ℕ) → SegmentsHeld t j (segments_in following) → SegmentsStand (VariableFits t whole) j (segments_in following))
          → SegmentsStand (VariableFits t whole) i (segments_in (element p n s kids following))
      by true q others =
          let rows = rw q at e in
          let inside = items_stand (row_of n) (in_int || is_int n) nothing_before (i + 1) kids (lies_inside h) rows.1 in
          rw q (inside, others (after_segment i (segment_of p s kids)) rows.2)
      by false q others = rw q (others i (rw q at e))

  described_stand : (r : Row) (in_int : Bool) (b : Before) (v u : Nodes) → Lies whole r in_int b u → SegmentsHeld t 0 (describe v u).segments
      → SegmentsStand (VariableFits t whole) 0 (describe v u).segments
  unfolding describe SegmentsHeld SegmentsStand
  described_stand r in_int b v end h e = tt
  described_stand r in_int b v (other p c following) h e = described_stand r in_int b v following (lies_other h) e
  described_stand r in_int b v (element p n s kids following) h e =
      segments_stand (row_of n) (in_int || is_int n) nothing_before 0 kids (lies_inside h) e

-- ── settings ──

pub described_nodes : (t u : Nodes) → (describe t u).nodes ≡ t
unfolding describe
described_nodes t end = refl
described_nodes t (other p c following) = described_nodes t following
described_nodes t (element p n s kids following) = refl

-- Where the table is the one planned from an accepted text, every variable of the walk fits.
accepted_stand : (b : List ℕ) (t : List ℤ) (d : Description) → described b ≡ accepted d → t ≡ table_of d.segments → SegmentsStand (VariableFits t d.nodes) 0 d.segments
unfolding element_faults Finds
accepted_stand b t d e q = by (stages b d e)
  where
    by : Stages b d → SegmentsStand (VariableFits t d.nodes) 0 d.segments
    by h =
        let whole = tree (cut h.text) in
        let m : d.nodes ≡ whole = sym (ap (λ x. x.nodes) h.told) ∙ described_nodes whole whole in
        let lies : Lies whole document_row false nothing_before whole = record {
          clean = h.ruled;
          rises = text_rises b h.text h.ends;
          finds = λ p k f. f;
        } in
        rw m (rw h.told at (described_stand t whole document_row false nothing_before whole whole lies (rw (h.told, q) (table_held d.segments))))

-- The place in its record is that of an element of the tree.
pub variable_stands : (b : List ℕ) (t : List ℤ) (n : ℕ) (d : Description) (v : Found) → described b ≡ accepted d → t ≡ table_of d.segments → variable_of d.segments n ≡ accepted v
    → is_some (content_at (place_of t v.number) d.nodes) ≡ true
unfolding is_some
variable_stands b t n d v e q f = rw (stand_found (VariableFits t d.nodes) d.segments n v (accepted_stand b t d e q) f).stands

setting_same : {x s : Setting} → ◌≡◌ {A = Answer Setting} (accepted x) (accepted s) → x ≡ s
setting_same e = cc

-- A variable that fits makes a setting that does.
fits_setting : (t : List ℤ) (whole : Nodes) (v : Found) → VariableFits t whole v.kind v.number v.size
    → SettingFits (record { variable = v; content = given (content_at (place_of t v.number) whole) end (λ k. k) })
fits_setting t whole v f = rw f.stands (record { kinds = f.kinds; sized = f.sized; low = λ k. (f.bounds k).low; high = λ k. (f.bounds k).high })

-- A setting of an accepted text and the table planned from it fits.
pub setting_fits : (b : List ℕ) (t : List ℤ) (n : ℕ) (s : Setting) → setting_of b t n ≡ accepted s → SettingFits s
unfolding setting_of exact setting_in
setting_fits b t n s e =
    through _ (setting_in t n) s e λ d p told.
    through (described b) (exact t) d p λ c p planned.
    through (variable_of d.segments n) _ s told λ v found told.
    let h = test_passed (same_table t (table_of c.segments)) (fault 20 0) c d planned in
    let q : t ≡ table_of d.segments = same_table_law t _ (rw h.1 at h.0) in
    let f = stand_found (VariableFits t d.nodes) d.segments n v (accepted_stand b t d (p ∙ ap accepted h.1) q) found in
    rw (setting_same told) at (fits_setting t d.nodes v f)
