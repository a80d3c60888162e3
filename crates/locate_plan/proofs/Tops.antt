-- The test of the segments, and of the whole table.
use mathlib.Core.Path.{◌≡◌, refl, sym, ap, ap₂, ◌∙◌}
use mathlib.Core.List.{List, [], ◌∷◌}
use mathlib.Core.Bool.{Bool, true, false, ◌&&◌}
use mathlib.Core.Logic.{⊎_elim}
use Prim.Native.Nat.{ℕ, zero, suc, pred, ◌+◌, ◌-◌, ◌/◌, ◌%◌, ◌^◌, ◌≤◌, ◌<◌}
use native.Mathlib.Omega.{arith}
use native.Mathlib.Nat.{zero-add, add_assoc}
use borrow.Author.Rules.{rules}
use borrow.Author.Tests.{lt-ltb, le-ltb, le-leb, lt-leb, eq-eqb, ne_eqb, leb-true}
use lib.Dec.{eqb, leb}
use lib.ListN.{length}
use lib.IntN.{ℤ, pos}
use Rattle.cdi.specs.Rules.{natural}
use Rattle.cdi.specs.Numbers.{within}
use Rattle.cdi.specs.Walk.{Items, Segment, steps, count, segment_steps, segment_keeps, after_segment, count_from, total}
use Rattle.cdi.specs.Plans.{field, kind_of, next_of, replication_fits, place_fits, next_fits, segment_fits, told, items_in, record_segment, segments_from, records_in, segments_of, segments_good, is_plan}
use Rattle.cdi.proofs.Tests.{parts, both_left, both_right}
use Rattle.extent.specs.Reach.{Small, extent_of, fits_at}
use Rattle.extent.specs.declared.Extent.{Extent}
use Rattle.extent.proofs.Joins.{extent_anywhere}
use Rattle.extent.proofs.Reached.{fits_of, extent_count, extent_keeps}
use Rattle.locate_plan.specs.Judging.{judged, good_in, items_extent, tested_of, segment_tells, planned_of}
use Rattle.locate_sums.specs.Sums.{limited, tells}
use Rattle.std.specs.Prelude.{Option, Some, None}
use Rattle.locate_rows.proofs.Numbers.{nots, in_of}
use Rattle.locate_sums.proofs.Limits.{of_limited, small_of}
use Rattle.locate_plan.proofs.Elements.{items_sound, tells_told}
use Rattle.locate_plan.proofs.Testing.{either, judged_bad, judged_good}

-- ── ranges ──

pub record Topped (t : List ℤ) (i e : ℕ) : Type 0 where
  pub origin : natural (field t i 2) ≤ 2147483647
  pub ahead : i < next_of t i
  pub nests : next_of t i ≤ e

pub topped : (t : List ℤ) (i e : ℕ) → segment_fits t i e ≡ true → Topped t i e
unfolding segment_fits next_fits
topped t i e h =
    let O = within (pos 0) (pos 2147483647) (field t i 2) in
    let S = within (pos 0) (pos 255) (field t i 3) in
    let R = replication_fits 1 (field t i 4) in
    let N = within (pos (i + 1)) (pos e) (field t i 5) in
    let p = both_right (eqb (kind_of t i) 1) (place_fits t i && (O && (S && (R && N)))) h in
    let q = parts O (S && (R && N)) (both_right (place_fits t i) (O && (S && (R && N))) p) in
    let n = in_of (i + 1) e (field t i 5) (both_right R N (both_right S (R && N) q.1)) in
    let o = in_of 0 2147483647 (field t i 2) q.0 in
    record { origin = o.1; ahead = omega arith; nests = n.1 }

-- ── no segment left, or one more ──

pub segments_out : (t : List ℤ) (k i e : ℕ) → e ≤ i → segments_from t k i e ≡ []
unfolding segments_from
segments_out t zero i e h = refl
segments_out t (suc k) i e h = rw (le-ltb i e h, segments_from)

pub good_segments_out : (t : List ℤ) (k i e : ℕ) → e ≤ i → segments_good t k i e ≡ true
unfolding segments_good
good_segments_out t zero i e h = refl
good_segments_out t (suc k) i e h = rw (le-ltb i e h, segments_good)

module _ (t : List ℤ) (k i e : ℕ) (b : i < e) where
  pub segments_more : segments_from t (suc k) i e ≡ record_segment t i ∷ segments_from t k (next_of t i) e
  unfolding segments_from
  segments_more = rw (lt-ltb i e b, segments_from)

  pub good_segments_more : segments_good t (suc k) i e
      ≡ segment_fits t i e && (good_in t 3 (i + 1) (next_of t i) && ((told t i (segment_steps i (record_segment t i)) && segment_keeps i (record_segment t i)) && segments_good t k (next_of t i) e))
  unfolding segments_good
  good_segments_more = rw (lt-ltb i e b, segments_good)

-- ── a segment, by the extent of its members ──

module _ (t : List ℤ) (i : ℕ) where
  pub segment_extent : extent_of (segment_steps i (record_segment t i)) ≡ items_extent t (i + 1) (next_of t i)
  unfolding segment_steps record_segment items_extent
  segment_extent = refl

  pub segment_count : count (segment_steps i (record_segment t i)) ≡ (items_extent t (i + 1) (next_of t i)).count
  segment_count = sym (extent_count (segment_steps i (record_segment t i))) ∙ ap (λ (e : Extent). e.count) segment_extent

  pub segment_tells_law : told t i (segment_steps i (record_segment t i)) ≡ tells t i (items_extent t (i + 1) (next_of t i))
  segment_tells_law = sym (tells_told t i (segment_steps i (record_segment t i))) ∙ ap (λ (e : Extent). tells t i e) segment_extent

  pub segment_keeps_law : natural (field t i 2) ≤ 2147483647 → segment_keeps i (record_segment t i) ≡ fits_at (natural (field t i 2)) (items_extent t (i + 1) (next_of t i))
  unfolding segment_keeps segment_steps record_segment items_extent
  segment_keeps_law h = extent_keeps (natural (field t i 2)) (omega arith) (steps (i + 1) (items_in t (i + 1) (next_of t i)))

-- the numbers of the records make no difference to the count
count_anywhere : (s : Items) (i j : ℕ) → count (steps i s) ≡ count (steps j s)
count_anywhere s i j = sym (extent_count (steps i s)) ∙ ap (λ (e : Extent). e.count) (extent_anywhere s i j) ∙ extent_count (steps j s)

count_from_anywhere : (gs : List Segment) (i j : ℕ) → count_from i gs ≡ count_from j gs
unfolding count_from segment_steps
count_from_anywhere [] i j = refl
count_from_anywhere (g ∷ gs) i j = ap₂ (λ (m n : ℕ). m + n) (count_anywhere g.items (i + 1) (j + 1)) (count_from_anywhere gs (after_segment i g) (after_segment j g))

total_more : (g : Segment) (gs : List Segment) (i : ℕ) → total (g ∷ gs) ≡ count (segment_steps i g) + total gs
unfolding total count_from segment_steps
total_more g gs i = ap₂ (λ (m n : ℕ). m + n) (count_anywhere g.items (0 + 1) (i + 1)) (count_from_anywhere gs (after_segment 0 g) 0)

-- ── the loop ──

-- what is known at record i, before which stand segments with `count` variables
pub record CountedTo (t : List ℤ) (end i counted : ℕ) : Type 0 where
  pub upto : i ≤ end
  pub kept : counted ≤ 1000000
  pub enough : ℕ
  pub spare : end ≤ i + enough
  pub left : planned_of t end ≡ segments_good t enough i end && leb (counted + total (segments_from t enough i end)) 1000000

pub begin : (t : List ℤ) (end : ℕ) → CountedTo t end 0 0
unfolding planned_of
begin t end = record {
  upto = omega arith;
  kept = omega arith;
  enough = end;
  spare = omega arith;
  left = ap (λ (m : ℕ). segments_good t end 0 end && leb m 1000000) (sym (zero-add (total (segments_from t end 0 end))));
}

module _ {t : List ℤ} {end i counted : ℕ} (v : CountedTo t end i counted) where
  pub all_good : end ≤ i → true ≡ planned_of t end
  unfolding total count_from
  all_good h = sym (v.left ∙ rw (good_segments_out t v.enough i end h, segments_out t v.enough i end h) (le-leb (counted + 0) 1000000 (omega (arith, v.kept))))

  module _ (b : i < end) where
    more : v.enough ≡ suc (pred v.enough)
    more = omega (arith, v.spare)

    here : planned_of t end
        ≡ (segment_fits t i end && (good_in t 3 (i + 1) (next_of t i) && ((told t i (segment_steps i (record_segment t i)) && segment_keeps i (record_segment t i)) && segments_good t (pred v.enough) (next_of t i) end)))
        && leb (counted + (count (segment_steps i (record_segment t i)) + total (segments_from t (pred v.enough) (next_of t i) end))) 1000000
    here = v.left ∙ rw (more, good_segments_more t (pred v.enough) i end b, segments_more t (pred v.enough) i end b, total_more (record_segment t i) (segments_from t (pred v.enough) (next_of t i) end) i)

    module _ {R : Bool} (fr : R ≡ segment_fits t i end) where
      pub no_segment : R ≡ false → false ≡ planned_of t end
      no_segment h = sym (here ∙ rw (← fr, h))

      module _ (hr : R ≡ true) {x : ℕ} (ex : x ≡ natural (field t i 5)) where
        top : Topped t i end
        top = topped t i end (sym fr ∙ hr)

        abbrev E : Extent
        E = items_extent t (i + 1) x

        abbrev rest : Bool
        rest = segments_good t (pred v.enough) x end

        abbrev others : ℕ
        others = total (segments_from t (pred v.enough) x end)

        settled : planned_of t end ≡ (good_in t 3 (i + 1) x && (segment_tells t i E && rest)) && leb (counted + (E.count + others)) 1000000
        unfolding segment_tells
        settled = here ∙ rw (← fr, hr, segment_tells_law, segment_keeps_law t i top.origin, segment_count, ← ex)

        module _ {c : Option Extent} (fc : c ≡ tested_of t 3 (i + 1) x) where
          judge : c ≡ judged (good_in t 3 (i + 1) x) E
          unfolding tested_of
          judge = fc

          narrow : segment_tells t i E ≡ true → E.span ≤ 2 ^ 32
          unfolding segment_tells
          narrow h =
              let f = fits_of (natural (field t i 2)) E (both_right (tells t i E) (fits_at (natural (field t i 2)) E) h) in
              omega (arith, f, top.origin, (items_sound t (i + 1) x).start)

          pub inside_bad : c ≡ None → false ≡ planned_of t end
          inside_bad h = sym (⊎_elim (λ y. absurd (clash y)) (λ y. y) (either (planned_of t end)))
            where
              clash : planned_of t end ≡ true → ⊥
              clash y =
                  let p = parts (good_in t 3 (i + 1) x && (segment_tells t i E && rest)) (leb (counted + (E.count + others)) 1000000) (sym settled ∙ y) in
                  let q = parts (good_in t 3 (i + 1) x) (segment_tells t i E && rest) p.0 in
                  let w = narrow (both_left (segment_tells t i E) rest q.1) in
                  let l = leb-true (counted + (E.count + others)) 1000000 p.1 in
                  judged_bad (good_in t 3 (i + 1) x) E (sym judge ∙ h) q.0 (of_limited E (record { spans = w; counts = omega arith }))

          module _ {e : Extent} (he : c ≡ Some e) where
            known : (good_in t 3 (i + 1) x ≡ true) × (limited E ≡ true) × (E ≡ e)
            known = judged_good (good_in t 3 (i + 1) x) E e (sym judge ∙ he)

            pub inside_small : Small e
            inside_small = rw known.2 at (small_of E (items_sound t (i + 1) x) known.1)

            decided : planned_of t end ≡ (segment_tells t i e && rest) && leb (counted + (e.count + others)) 1000000
            decided = settled ∙ rw (known.0, known.2)

            module _ {a : Bool} (fa : a ≡ segment_tells t i e) where
              pub untold : a ≡ false → false ≡ planned_of t end
              untold h = sym (decided ∙ rw (← fa, h))

              pub too_many : a ≡ true → 1000000 - counted < e.count → false ≡ planned_of t end
              too_many ha h = sym (decided ∙ rw (← fa, ha)
                  (⊎_elim (λ g. rw (g, lt-leb (counted + (e.count + others)) 1000000 (omega (arith, v.kept)))) (λ g. rw g) (either rest)))

              pub next_segment : a ≡ true → e.count ≤ 1000000 - counted → CountedTo t end x (counted + e.count)
              next_segment ha h = record {
                upto = omega (arith, top.nests);
                kept = omega (arith, v.kept);
                enough = pred v.enough;
                spare = omega (arith, v.spare, top.ahead, more);
                left = decided ∙ rw (← fa, ha, add_assoc);
              }

pub ruleset counting = (begin, all_good, no_segment, inside_bad, untold, too_many, next_segment, nots, rules)

module _ (t : List ℤ) (i e : ℕ) {R : Bool} (fr : R ≡ segment_fits t i e) (hr : R ≡ true) where
  passed : Topped t i e
  passed = topped t i e (sym fr ∙ hr)

  pub origin_low : natural (field t i 2) ≤ 2147483647
  origin_low = passed.origin

  pub top_after : i < natural (field t i 5)
  top_after = omega (arith, passed.ahead)

  pub top_upto : natural (field t i 5) ≤ e
  top_upto = omega (arith, passed.nests)

pub ruleset entering_top = (origin_low, top_after, top_upto, inside_small, nots, rules)

-- ── the whole table ──

module _ (t : List ℤ) where
  pub ragged : (length t % 8 ≡ 0 → ⊥) → false ≡ is_plan t
  unfolding is_plan
  ragged h = sym (rw (ne_eqb _ _ h))

  pub too_long : length t % 8 ≡ 0 → 4095 < length t / 8 → false ≡ is_plan t
  unfolding is_plan records_in
  too_long h k = sym (rw (eq-eqb _ _ h, lt-leb _ _ k))

  pub plan_is : length t % 8 ≡ 0 → length t / 8 ≤ 4095 → {a : Bool} → a ≡ planned_of t (length t / 8) → a ≡ is_plan t
  unfolding is_plan records_in planned_of segments_of
  plan_is h k e = e ∙ sym (rw (eq-eqb _ _ h, le-leb _ _ k))

pub ruleset planning = (ragged, too_long, plan_is, rules)

-- ── what a segment tells ──

module _ (t : List ℤ) (i : ℕ) (e : Extent) {a : Bool} (fa : a ≡ tells t i e) where
  pub segment_untold : a ≡ false → a ≡ segment_tells t i e
  unfolding segment_tells
  segment_untold h = h ∙ sym (rw (← fa, h))

  pub segment_fits_is : a ≡ true → {o : ℕ} {b : Bool} → o ≡ natural (field t i 2) → b ≡ fits_at o e → b ≡ segment_tells t i e
  unfolding segment_tells
  segment_fits_is h p q = q ∙ sym (rw (← fa, h, p))

pub ruleset segment_telling = (segment_untold, segment_fits_is, nots, rules)
