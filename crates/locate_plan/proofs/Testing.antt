-- The test of data elements, by extents: what is left to test, from here, decides as the whole does.
use mathlib.Core.Path.{◌≡◌, refl, sym, ap, ap₂, ◌∙◌}
use mathlib.Core.List.{List}
use mathlib.Core.Bool.{Bool, true, false, cond, ◌&&◌}
use mathlib.Core.Logic.{◌⊎◌, inl, inr, ⊎_elim}
use Prim.Native.Nat.{ℕ, suc, pred, ◌+◌, ◌-◌, ◌≤◌, ◌<◌}
use native.Mathlib.Omega.{arith}
use native.Mathlib.Decide.{ℕ_discrete}
use borrow.Author.Rules.{rules}
use borrow.Author.Tests.{le-leb, lt-leb, eq-eqb}
use lib.Dec.{leb}
use lib.IntN.{ℤ}
use Rattle.cdi.specs.Rules.{natural}
use Rattle.cdi.specs.Walk.{Items, steps}
use Rattle.cdi.specs.Plans.{field, kind_of, replication_of, next_of, item_fits, told, item_of, items_from, items_in, items_good}
use Rattle.cdi.proofs.Tests.{both_left}
use Rattle.extent.specs.Reach.{Sound, Small, nowhere, by_offset, join, repeat, extent_of}
use Rattle.extent.specs.declared.Extent.{Extent}
use Rattle.extent.proofs.Joins.{nowhere_sound, join_sound, extent_sound, nowhere_join, join_nowhere, join_assoc}
use Rattle.locate_plan.specs.Judging.{judged, good_in, items_extent, tested_of}
use Rattle.locate_sums.specs.Sums.{limited, tells, element_extent, added_of}
use Rattle.std.specs.Prelude.{Option, Some, None}
use Rattle.locate_rows.proofs.Numbers.{nots}
use Rattle.locate_plan.proofs.Subtrees.{Ranged, ranged, items_out, good_out, items_more, good_more, Same, same_steps}
use Rattle.locate_sums.proofs.Limits.{small_of, limited_first, limited_second, limited_once}
use Rattle.locate_plan.proofs.Elements.{element_join, element_sound, element_extent_law, items_sound, tells_told}

-- ── judgements ──

pub either : (a : Bool) → (a ≡ true) ⊎ (a ≡ false)
either true = inl refl
either false = inr refl

good_bad : {A : Type 0} {e : Extent} → Some e ≡ None → A
good_bad h = absurd (let z : ◌≡◌ {A = ℕ} 0 1 = cc in omega arith)

-- bad unless both parts hold
judged_unless : (g : Bool) (e : Extent) → (g ≡ true → limited e ≡ true → ⊥) → judged g e ≡ None
unfolding judged
judged_unless false e h = refl
judged_unless true e h = ⊎_elim (λ w. absurd (h refl w)) (λ w. rw w) (either (limited e))

pub judged_bad : (g : Bool) (e : Extent) → judged g e ≡ None → g ≡ true → limited e ≡ true → ⊥
unfolding judged
judged_bad g e h p q = good_bad (rw (p, q) at h)

pub judged_good : (g : Bool) (e m : Extent) → judged g e ≡ Some m → (g ≡ true) × (limited e ≡ true) × (e ≡ m)
unfolding judged
judged_good false e m h = good_bad (sym h)
judged_good true e m h = ⊎_elim (λ w. (refl, w, is w)) (λ w. good_bad (sym (rw w at h))) (either (limited e))
  where
    is : limited e ≡ true → e ≡ m
    is w = let f = rw w at h in cc

-- the same of an element that is added
pub added_good : (t : List ℤ) (i : ℕ) (m before whole : Extent) → added_of t i m before ≡ Some whole
    → (tells t i (element_extent t i m) ≡ true) × (limited (join before (element_extent t i m)) ≡ true) × (join before (element_extent t i m) ≡ whole)
unfolding added_of
added_good t i m before whole h = by (limited own) (tells t i own) (limited (join before own)) h
  where
    own : Extent
    own = element_extent t i m

    by : (a b c : Bool) → cond (a && (b && c)) (Some (join before own)) None ≡ Some whole → (b ≡ true) × (c ≡ true) × (join before own ≡ whole)
    by true true true h = (refl, refl, (cc))
    by true true false h = good_bad (sym h)
    by true false c h = good_bad (sym h)
    by false b c h = good_bad (sym h)

pub added_bad : (t : List ℤ) (i : ℕ) (m before : Extent) → added_of t i m before ≡ None
    → limited (element_extent t i m) ≡ true → tells t i (element_extent t i m) ≡ true → limited (join before (element_extent t i m)) ≡ true → ⊥
unfolding added_of
added_bad t i m before h a b c = good_bad (rw (a, b, c) at h)

-- ── members ──

no_members : (t : List ℤ) (i e : ℕ) → e ≤ i → limited (items_extent t i e) ≡ true
unfolding items_extent items_in steps extent_of nowhere limited
no_members t i e h = rw (items_out t (e - i) i e h)

-- the members of an element within the limits are so themselves
members_limited : (t : List ℤ) (i e x : ℕ) → Ranged t i e → x ≡ natural (field t i 5)
    → limited (element_extent t i (items_extent t (i + 1) x)) ≡ true → limited (items_extent t (i + 1) x) ≡ true
unfolding element_extent
members_limited t i e x r ex h = by (ℕ_discrete (kind_of t i) 2)
  where
    E : Extent
    E = items_extent t (i + 1) x

    by : Dec (kind_of t i ≡ 2) → limited E ≡ true
    by (yes z) = limited_once (replication_of t i) E r.one (limited_second (by_offset (field t i 2)) (repeat (replication_of t i) E) (rw (eq-eqb (kind_of t i) 2 z) at h))
    by (no z) = let l : x ≤ i + 1 = omega (arith, r.alone z) in no_members t (i + 1) x l

-- ── the loop ──

-- what is known at record i, before which stand the elements of extent `before`
pub record TestedTo (t : List ℤ) (d from end i : ℕ) (before : Extent) : Type 0 where
  pub upto : i ≤ end
  pub since : from ≤ i
  pub sound : Sound before
  pub kept : limited before ≡ true
  pub enough : ℕ
  pub spare : end ≤ i + enough
  pub left : tested_of t d from end ≡ judged (items_good t enough d i end) (join before (extent_of (steps i (items_from t enough i end))))

pub start : (t : List ℤ) (d from end : ℕ) {e : Extent} → from ≤ end → e ≡ nowhere → TestedTo t d from end from e
unfolding tested_of items_extent items_in nowhere limited
start t d from end h z = rw z (record {
  upto = h;
  since = omega arith;
  sound = nowhere_sound;
  kept = refl;
  enough = end - from;
  spare = omega arith;
  left = ap (λ (e : Extent). judged (good_in t d from end) e) (sym (nowhere_join (extent_of (steps from (items_in t from end))) (extent_sound (steps from (items_in t from end)))));
})

module _ {t : List ℤ} {d from end i : ℕ} {before : Extent} (v : TestedTo t d from end i before) where
  pub before_small : Small before
  before_small = small_of before v.sound v.kept

  pub done : end ≤ i → Some before ≡ tested_of t d from end
  unfolding judged steps extent_of
  done h = sym (v.left ∙ rw (good_out t v.enough d i end h, items_out t v.enough i end h, join_nowhere before v.sound, v.kept))

  module _ (b : i < end) where
    fewer : ℕ
    fewer = pred v.enough

    more : v.enough ≡ suc (pred v.enough)
    more = omega (arith, v.spare)

    -- with this record taken off
    here : tested_of t d from end
        ≡ judged
        (leb d 24 && (item_fits t i end && (items_good t (pred v.enough) (d + 1) (i + 1) (next_of t i)
        && (told t i (steps i (item_of t i (items_from t (pred v.enough) (i + 1) (next_of t i)) Items.no_items)) && items_good t (pred v.enough) d (next_of t i) end))))
        (join before (extent_of (steps i (item_of t i (items_from t (pred v.enough) (i + 1) (next_of t i)) (items_from t (pred v.enough) (next_of t i) end)))))
    here = v.left ∙ rw (more, good_more t (pred v.enough) i end b d, items_more t (pred v.enough) i end b)

    pub too_deep : 24 < d → None ≡ tested_of t d from end
    unfolding judged
    too_deep h = sym (here ∙ rw (lt-leb d 24 h))

    module _ (hd : d ≤ 24) {R : Bool} (fr : R ≡ item_fits t i end) where
      pub unfit : R ≡ false → None ≡ tested_of t d from end
      unfolding judged
      unfit h = sym (here ∙ rw (le-leb d 24 hd, ← fr, h))

      module _ (hr : R ≡ true) {x : ℕ} (ex : x ≡ natural (field t i 5)) where
        ran : Ranged t i end
        ran = ranged t i end b (sym fr ∙ hr)

        ahead : i + 1 ≤ x
        ahead = omega (arith, ran.ahead)

        nests : x ≤ end
        nests = omega (arith, ran.nests)

        same : Same t (pred v.enough) (x - (i + 1)) (d + 1) (i + 1) x
        same = same_steps t (pred v.enough) (x - (i + 1)) (d + 1) (i + 1) x (omega (arith, more, v.spare, nests)) (omega arith)

        abbrev G : Bool
        G = good_in t (d + 1) (i + 1) x

        abbrev E : Extent
        E = items_extent t (i + 1) x

        abbrev own : Extent
        own = element_extent t i E

        abbrev rest : Extent
        rest = extent_of (steps x (items_from t (pred v.enough) x end))

        members_wrong : G ≡ false → tested_of t d from end ≡ None
        unfolding judged
        members_wrong h = here ∙ rw (le-leb d 24 hd, ← fr, hr, ← ex, same.good, h)

        -- with good members, what the element tells and what follows it decide
        settled : G ≡ true → tested_of t d from end ≡ judged (tells t i own && items_good t (pred v.enough) d x end) (join (join before own) rest)
        unfolding items_extent items_in
        settled h = here ∙ ap₂ (λ (g : Bool) (e : Extent). judged g e) tests sums
          where
            inner : items_from t (pred v.enough) (i + 1) x ≡ items_from t (x - (i + 1)) (i + 1) x
            inner = same.items (same.good ∙ h)

            element : extent_of (steps i (item_of t i (items_from t (x - (i + 1)) (i + 1) x) Items.no_items)) ≡ own
            element = element_extent_law t i (items_from t (x - (i + 1)) (i + 1) x) ran.one

            tests : leb d 24 && (item_fits t i end && (items_good t (pred v.enough) (d + 1) (i + 1) (next_of t i)
                && (told t i (steps i (item_of t i (items_from t (pred v.enough) (i + 1) (next_of t i)) Items.no_items)) && items_good t (pred v.enough) d (next_of t i) end)))
                ≡ tells t i own && items_good t (pred v.enough) d x end
            tests = rw (le-leb d 24 hd, ← fr, hr, ← ex, inner, same.good, h, ← element, tells_told)

            sums : join before (extent_of (steps i (item_of t i (items_from t (pred v.enough) (i + 1) (next_of t i)) (items_from t (pred v.enough) (next_of t i) end))))
                ≡ join (join before own) rest
            sums =
                rw (← ex, inner) (ap (λ (e : Extent). join before e) (element_join t i (items_from t (x - (i + 1)) (i + 1) x) ran.one (items_from t (pred v.enough) x end) x))
                ∙ sym (join_assoc before own rest)

        module _ {c : Option Extent} (fc : c ≡ tested_of t (d + 1) (i + 1) x) where
          judge : c ≡ judged G E
          unfolding tested_of
          judge = fc

          pub members_bad : c ≡ None → None ≡ tested_of t d from end
          members_bad h = sym (⊎_elim good members_wrong (either G))
            where
              good : G ≡ true → tested_of t d from end ≡ None
              good g = settled g ∙ judged_unless _ _ (λ _ w.
                  judged_bad G E (sym judge ∙ h) g (members_limited t i end x ran ex (limited_second before own (limited_first (join before own) rest w))))

          module _ {m : Extent} (hm : c ≡ Some m) where
            known : (G ≡ true) × (limited E ≡ true) × (E ≡ m)
            known = judged_good G E m (sym judge ∙ hm)

            pub members_small : Small m
            members_small = rw known.2 at (small_of E (items_sound t (i + 1) x) known.1)

            module _ {a : Option Extent} (fa : a ≡ added_of t i m before) where
              adds : a ≡ added_of t i E before
              adds = fa ∙ rw known.2

              pub element_bad : a ≡ None → None ≡ tested_of t d from end
              element_bad h = sym (settled known.0 ∙ judged_unless _ _ (λ g w.
                  let l = limited_first (join before own) rest w in
                  added_bad t i E before (sym adds ∙ h) (limited_second before own l) (both_left (tells t i own) (items_good t (pred v.enough) d x end) g) l))

              pub onward : {whole : Extent} → a ≡ Some whole → TestedTo t d from end x whole
              onward {whole} h =
                  let g = added_good t i E before whole (sym adds ∙ h) in
                  rw (← g.2) (record {
                    upto = nests;
                    since = omega (arith, v.since, ahead);
                    sound = join_sound before own v.sound (element_sound t i E (items_sound t (i + 1) x));
                    kept = g.1;
                    enough = pred v.enough;
                    spare = omega (arith, v.spare, ahead, more);
                    left = settled known.0 ∙ rw g.0;
                  })

pub ruleset testing = (start, done, too_deep, unfit, members_bad, element_bad, onward, nots, rules)

-- ── at a record that passes ──

module _ (t : List ℤ) (i e : ℕ) (b : i < e) {R : Bool} (fr : R ≡ item_fits t i e) (hr : R ≡ true) where
  passed : Ranged t i e
  passed = ranged t i e b (sym fr ∙ hr)

  pub next_after : i < natural (field t i 5)
  next_after = omega (arith, passed.ahead)

  pub next_upto : natural (field t i 5) ≤ e
  next_upto = omega (arith, passed.nests)

  pub replication_least : 1 ≤ natural (field t i 4)
  replication_least = passed.one

  pub replication_most : natural (field t i 4) ≤ 2147483647
  replication_most = passed.most

pub ruleset entering = (next_after, next_upto, replication_least, replication_most, members_small, before_small, nots, rules)
