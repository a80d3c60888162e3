-- What the definitions promise, gathered for a reader: the table of an accepted text, the nth variable, and a write that is read back.
-- (Bytes behind the first zero are in Zero, tables of any length in Room, the least fault in Least, the walk's arithmetic in Walked.)
use mathlib.Core.Path.{◌≡◌, refl, ◌∙◌}
use mathlib.Core.List.{List, [], ◌∷◌, map}
use mathlib.Core.Bool.{true}
use Prim.Native.Nat.{ℕ, zero, suc, ◌<◌, ◌≤◌}
use native.Mathlib.Omega.{arith}
use lib.IntN.{ℤ, pos}
use lib.ListN.{length, get_or, length-append, length-map, get_or-eq_default}
use Rattle.cdi.specs.Faults.{fault, Answer, accepted, refused}
use Rattle.cdi.specs.Walk.{Segment, Found, found, variables, segment_steps, after_segment, walk_from, walk, count_from, total}
use Rattle.cdi.specs.Table.{table_of}
use Rattle.cdi.specs.Plans.{is_plan, segments_of, variable_of, locating}
use Rattle.cdi.specs.Planning.{Description, described}
use Rattle.cdi.specs.Access.{Window, Value, setting_of, first_cause, write_causes, written, window_after, read}
use Rattle.cdi.proofs.Walked.{count_variables}
use Rattle.cdi.proofs.PlanOf.{decodes, is_plan_law, locates}
use Rattle.cdi.proofs.Quiet.{through}
use Rattle.cdi.proofs.Accepted.{accepted_planable}
use Rattle.cdi.proofs.Settings.{setting_fits}
use Rattle.cdi.proofs.Back.{SixtyFour, holding, reads_back}

-- ── the table of an accepted text ──

module _ (b : List ℕ) (d : Description) (e : described b ≡ accepted d) where
  -- it is a plan
  pub table_is_plan : is_plan (table_of d.segments) ≡ true
  table_is_plan = is_plan_law (accepted_planable b d e)

  -- it decodes to the segments of the text
  pub table_decodes : segments_of (table_of d.segments) ≡ d.segments
  table_decodes = decodes (accepted_planable b d e)

  -- asked of the table alone, variable n is that of the text's full walk, for any n
  pub table_locates : (n : ℕ) → locating (table_of d.segments) n ≡ variable_of d.segments n
  table_locates n = locates (accepted_planable b d e) n

-- ── the nth variable of the full walk ──

count_walk : (i : ℕ) (gs : List Segment) → length (walk_from i gs) ≡ count_from i gs
unfolding walk_from count_from
count_walk i [] = refl
count_walk i (g ∷ gs) =
    let own = variables (pos g.origin) (segment_steps i g) in
    length-append (map (found g.space) own) (walk_from (after_segment i g) gs)
    ∙ omega (arith, length-map own (found g.space), count_variables (pos g.origin) (segment_steps i g), count_walk (after_segment i g) gs)

-- the count is that walk's count
pub count_is : (gs : List Segment) → length (walk gs) ≡ total gs
unfolding walk total
count_is gs = count_walk 0 gs

nth_accepted : (vs : List Found) (n : ℕ) (d : Found) → n < length vs → get_or (map accepted vs) n (refused (fault 21 0)) ≡ accepted (get_or vs n d)
nth_accepted [] n d h = absurd (omega arith)
nth_accepted (v ∷ vs) zero d h = refl
nth_accepted (v ∷ vs) (suc n) d h = nth_accepted vs n d (omega arith)

-- below the count it is the walk's entry n
pub nth_is : (gs : List Segment) (n : ℕ) (d : Found) → n < total gs → variable_of gs n ≡ accepted (get_or (walk gs) n d)
unfolding variable_of
nth_is gs n d h = nth_accepted (walk gs) n d (omega (arith, count_is gs))

-- at or above it 21
pub nth_none : (gs : List Segment) (n : ℕ) → total gs ≤ n → variable_of gs n ≡ refused (fault 21 0)
unfolding variable_of
nth_none gs n h = get_or-eq_default (map accepted (walk gs)) (refused (fault 21 0)) (omega (arith, length-map {B = Answer Found} (walk gs) accepted, count_is gs))

-- ── an accepted write ──

-- reading back before any other write gives the value, and says that writing it would be accepted
pub written_reads_back : (b : List ℕ) (t : List ℤ) (n : ℕ) (w : Window) (v : Value) → SixtyFour v → written b t n w v ≡ accepted tt
    → read b t n (holding w (window_after b t n w v)) ≡ accepted (record { value = v; writable = true })
unfolding written
written_reads_back b t n w v x e =
    through (setting_of b t n) (λ s. first_cause (write_causes w v s)) tt e λ s found causes.
    reads_back b t n w v s found e (setting_fits b t n s found) x
