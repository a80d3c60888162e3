-- The loop over copies: what is left to fill with, from here, gives what the whole gives.
use mathlib.Core.Path.{◌≡◌, refl, sym, ap, ◌∙◌}
use mathlib.Core.List.{List, [], ◌∷◌, ◌++◌, append_assoc}
use mathlib.Core.Bool.{Bool, true, false, cond}
use Prim.Native.Nat.{ℕ, zero, suc, pred, ◌+◌, ◌*◌, ◌-◌, ◌^◌, ◌≤◌, ◌<◌}
use native.Mathlib.Omega.{arith}
use borrow.Author.Rules.{rules}
use lib.Dec.{ltb}
use lib.ListN.{length}
use lib.Seq.{sets, length-sets}
use lib.IntN.{ℤ, pos, neg_ℤ, ◌+ℤ◌}
use Rattle.cdi.specs.Rules.{natural}
use Rattle.cdi.specs.Walk.{Items, Found, Step, steps, copies, change, variables}
use Rattle.cdi.specs.Plans.{field, next_of, item_of, items_from, items_in, items_good}
use Rattle.extent.specs.Reach.{repeat, extent_of}
use Rattle.extent.specs.declared.Extent.{Extent}
use Rattle.extent.proofs.Joins.{extent_sound, extent_append, extent_repeat}
use Rattle.extent.proofs.Reached.{Fits, fits_of, of_fits, past, join_first, join_second, arrives, extent_change}
use Rattle.locate_sums.specs.Sums.{element_extent}
use Rattle.locate_plan.specs.Judging.{good_in, items_extent}
use Rattle.locate_ways.specs.Finding.{Site}
use Rattle.locate_copies.specs.Choosing.{moved_by}
use Rattle.locate_plan.proofs.Subtrees.{items_out, Same, same_steps, good_following}
use Rattle.locate_plan.proofs.Elements.{element_sound, element_extent_law, items_sound}
use Rattle.locate_ways.proofs.Ways.{Entry, entry, Seeking, start as seeks, change_is, address_high as ways_high, change_low as ways_low, change_high as ways_far}
use Rattle.listing_fill.specs.Batch.{numbers_of}
use Rattle.listing_fill.specs.Filling.{put, Filling, filling, one, fill, met, copies_met, element_met, Copying}
use Rattle.listing_fill.proofs.Batches.{met_append, length_met, fill_append, fill_skip, fill_left, full_filled, full_out}

-- the steps that are left at record i, with `again` copies to walk, this one included
unfoldable pub ahead : List ℤ → ℕ → ℕ → ℕ → ℕ → ℕ → List Step
ahead t n from e i zero = []
ahead t n from e i (suc c) = steps i (items_from t n i e) ++ copies c (steps from (items_in t from e))

-- at the start of a copy they are the copies
ahead_copies : (t : List ℤ) (from e c : ℕ) → ahead t (e - from) from e from c ≡ copies c (steps from (items_in t from e))
unfolding ahead copies items_in
ahead_copies t from e zero = refl
ahead_copies t from e (suc c) = refl

-- at its end they are the copies behind it
ahead_end : (t : List ℤ) (n from e i c : ℕ) → e ≤ i → ahead t n from e i (suc c) ≡ copies c (steps from (items_in t from e))
unfolding ahead steps
ahead_end t n from e i c h = rw (items_out t n i e h)

ahead_next : (t : List ℤ) (n from e i again : ℕ) → 0 < again → e ≤ i → ahead t n from e i again ≡ ahead t (e - from) from e from (again - 1)
ahead_next t n from e i zero g h = absurd (omega arith)
ahead_next t n from e i (suc c) g h = let z : suc c - 1 ≡ c = omega arith in rw z (ahead_end t n from e i c h ∙ sym (ahead_copies t from e c))

ahead_split : (t : List ℤ) (n from e i x again : ℕ) (S : List Step) → 0 < again → steps i (items_from t (suc n) i e) ≡ S ++ steps x (items_from t n x e)
    → ahead t (suc n) from e i again ≡ S ++ ahead t n from e x again
unfolding ahead
ahead_split t n from e i x zero S g h = absurd (omega arith)
ahead_split t n from e i x (suc c) S g h =
    ap (λ (l : List Step). l ++ copies c (steps from (items_in t from e))) h
    ∙ append_assoc S (steps x (items_from t n x e)) (copies c (steps from (items_in t from e)))

-- this copy's part keeps the limits that all keep
ahead_fits : (t : List ℤ) (n from e i a again : ℕ) → 0 < again → Fits a (extent_of (ahead t n from e i again)) → Fits a (extent_of (steps i (items_from t n i e)))
unfolding ahead
ahead_fits t n from e i a zero g f = absurd (omega arith)
ahead_fits t n from e i a (suc c) g f =
    let p = steps i (items_from t n i e) in
    let q = copies c (steps from (items_in t from e)) in
    join_first a (extent_of p) (extent_of q) (extent_sound p) (extent_sound q) (rw (extent_append p q) at f)

finished : (t : List ℤ) (space n from e i a again room : ℕ) (st : Filling) → again ≤ 0 → fill room st (met space (pos a) (ahead t n from e i again)) ≡ st
unfolding ahead met variables fill
finished t space n from e i a zero room st h = refl
finished t space n from e i a (suc c) room st h = absurd (omega arith)

-- filling keeps the slice's length
one_long : (room : ℕ) (st : Filling) (f : Found) → length (one room st f).out ≡ length st.out
unfolding one put
one_long room st f = by (ltb 0 st.skip) (ltb st.filled room)
  where
    by : (a b : Bool) → length (cond a (filling (st.skip - 1) st.filled st.out) (cond b (filling 0 (st.filled + 1) (sets st.out (st.filled * 5) (numbers_of (f ∷ [])))) st)).out ≡ length st.out
    by true b = refl
    by false true = length-sets st.out (st.filled * 5) (numbers_of (f ∷ []))
    by false false = refl

pub fill_long : (room : ℕ) (p : List Found) (st : Filling) → length (fill room st p).out ≡ length st.out
unfolding fill
fill_long room [] st = refl
fill_long room (f ∷ p) st = fill_long room p (one room st f) ∙ one_long room st f

pub alike : {s s' k k' : ℕ} {o o' : List ℕ} → s ≡ s' → k ≡ k' → o ≡ o' → filling s k o ≡ filling s' k' o'
alike p q r = cc

copying_fits : (t : List ℤ) (from e a r : ℕ) → Copying t from e a r → Fits a (repeat r (extent_of (steps from (items_in t from e))))
unfolding items_extent
copying_fits t from e a r c = fits_of a (repeat r (items_extent t from e)) c.keeps

pub record FilledTo (t : List ℤ) (space from end origin copies₀ skip room filled : ℕ) (o₀ : List ℕ) (i a again left k : ℕ) (o : List ℕ) : Type 0 where
  pub upto : i ≤ end
  pub since : from ≤ i
  pub kept : k ≤ room
  pub long : room * 5 ≤ length o
  pub same : length o ≡ length o₀
  pub depth : ℕ
  pub enough : ℕ
  pub spare : end ≤ i + enough
  pub good : items_good t enough depth i end ≡ true
  pub whole : good_in t depth from end ≡ true
  pub fits : Fits a (extent_of (ahead t enough from end i again))
  pub filled_is : (fill room (filling skip filled o₀) (copies_met t space from end origin copies₀)).filled ≡ (fill room (filling left k o) (met space (pos a) (ahead t enough from end i again))).filled
  pub out_is : (fill room (filling skip filled o₀) (copies_met t space from end origin copies₀)).out ≡ (fill room (filling left k o) (met space (pos a) (ahead t enough from end i again))).out

pub begin : (t : List ℤ) (space from end origin r skip room k : ℕ) (o : List ℕ) → from ≤ end → Copying t from end origin r → k ≤ room → room * 5 ≤ length o
    → FilledTo t space from end origin r skip room k o from origin r skip k o
unfolding copies_met
begin t space from end origin r skip room k o h c l m = record {
  upto = h;
  since = omega arith;
  kept = l;
  long = m;
  same = refl;
  depth = c.depth;
  enough = end - from;
  spare = omega arith;
  good = c.good;
  whole = c.good;
  fits = rw (ahead_copies t from end r, extent_repeat r (steps from (items_in t from end)) c.some) (copying_fits t from end origin r c);
  filled_is = rw (ahead_copies t from end r);
  out_is = rw (ahead_copies t from end r);
}

module _ {t : List ℤ} {space from end origin r skip room filled i a again left k : ℕ} {o₀ o : List ℕ} (v : FilledTo t space from end origin r skip room filled o₀ i a again left k o) where
  pub done_filled : again ≤ 0 → k ≡ (fill room (filling skip filled o₀) (copies_met t space from end origin r)).filled
  done_filled h = sym (v.filled_is ∙ ap (λ (x : Filling). x.filled) (finished t space v.enough from end i a again room (filling left k o) h))

  pub done_out : again ≤ 0 → o ≡ (fill room (filling skip filled o₀) (copies_met t space from end origin r)).out
  done_out h = sym (v.out_is ∙ ap (λ (x : Filling). x.out) (finished t space v.enough from end i a again room (filling left k o) h))

  pub long_same : length o ≡ length o₀
  long_same = v.same

  pub kept_k : k ≤ room
  kept_k = v.kept

  pub full_k : room ≤ k → k ≡ (fill room (filling skip filled o₀) (copies_met t space from end origin r)).filled
  full_k h = sym (v.filled_is ∙ full_filled room (met space (pos a) (ahead t v.enough from end i again)) (filling left k o) h)

  pub full_o : room ≤ k → o ≡ (fill room (filling skip filled o₀) (copies_met t space from end origin r)).out
  full_o h = sym (v.out_is ∙ full_out room (met space (pos a) (ahead t v.enough from end i again)) (filling left k o) h)

  module _ (g : 0 < again) where
    -- the next copy
    pub next_copy : end ≤ i → FilledTo t space from end origin r skip room filled o₀ from a (again - 1) left k o
    next_copy h = record {
      upto = omega (arith, v.upto, v.since);
      since = omega arith;
      kept = v.kept;
      long = v.long;
      same = v.same;
      depth = v.depth;
      enough = end - from;
      spare = omega arith;
      good = v.whole;
      whole = v.whole;
      fits = rw same at v.fits;
      filled_is = v.filled_is ∙ ap (λ (l : List Step). (fill room (filling left k o) (met space (pos a) l)).filled) same;
      out_is = v.out_is ∙ ap (λ (l : List Step). (fill room (filling left k o) (met space (pos a) l)).out) same;
    }
      where
        same : ahead t v.enough from end i again ≡ ahead t (end - from) from end from (again - 1)
        same = ahead_next t v.enough from end i again g h

    module _ (b : i < end) where
      abbrev x : ℕ
      x = next_of t i

      abbrev S : List Step
      S = steps i (item_of t i (items_in t (i + 1) (next_of t i)) Items.no_items)

      abbrev own : Extent
      own = element_extent t i (items_extent t (i + 1) (next_of t i))

      abbrev rest : List Step
      rest = ahead t (pred v.enough) from end (next_of t i) again

      more : v.enough ≡ suc (pred v.enough)
      more = omega (arith, v.spare)

      both : (steps i (items_from t (suc (pred v.enough)) i end) ≡ S ++ steps x (items_from t (pred v.enough) x end)) × Entry t v.depth i end a (items_from t (pred v.enough) x end)
      both =
          entry t (pred v.enough) v.depth i end a b (omega (arith, more, v.spare)) (rw more at v.good)
          (rw more at (ahead_fits t v.enough from end i a again g v.fits))

      here : Entry t v.depth i end a (items_from t (pred v.enough) x end)
      here = both.1

      parted : ahead t v.enough from end i again ≡ S ++ rest
      parted = rw more (ahead_split t (pred v.enough) from end i x again S g both.0)

      own_is : extent_of S ≡ own
      unfolding items_extent
      own_is = element_extent_law t i (items_in t (i + 1) (next_of t i)) here.range.one

      after_fits : Fits (past a own) (extent_of rest)
      after_fits =
          join_second a own (extent_of rest) (element_sound t i (items_extent t (i + 1) x) (items_sound t (i + 1) x)) (extent_sound rest)
          (rw (parted, extent_append S rest, own_is) at v.fits)

      -- behind the element
      stepped : (st : Filling) → fill room st (met space (pos a) (ahead t v.enough from end i again)) ≡ fill room (fill room st (met space (pos a) S)) (met space (pos (past a own)) rest)
      stepped st =
          ap (λ (l : List Step). fill room st (met space (pos a) l)) parted
          ∙ ap (λ (l : List Found). fill room st l) (met_append space (pos a) S rest)
          ∙ fill_append room st (met space (pos a) S) (met space (pos a +ℤ change S) rest)
          ∙ ap (λ (z : ℤ). fill room (fill room st (met space (pos a) S)) (met space z rest)) (arrives a (change S) own (rw own_is at (extent_change S)) here.fits.low)

      pub site : Site t i end a
      unfolding items_extent items_in
      site = record {
        depth = v.depth;
        good = sym same.good ∙ v.good;
        keeps = of_fits a (extent_of (steps i (items_from t (end - i) i end))) (rw (same.items v.good) at (ahead_fits t v.enough from end i a again g v.fits));
      }
        where
          same : Same t v.enough (end - i) v.depth i end
          same = same_steps t v.enough (end - i) v.depth i end v.spare (omega arith)

      seeking : Seeking t i end a left i a left
      seeking = seeks t i end a left (omega arith) site

      pub going_high : a ≤ 2 ^ 32
      going_high = ways_high seeking b

      pub going_low : natural (neg_ℤ (field t i 7)) ≤ a
      going_low = ways_low seeking b

      pub going_far : natural (field t i 7) ≤ 2 ^ 32
      going_far = ways_far seeking b

      pub going_first : i < natural (field t i 5)
      going_first = here.range.ahead

      pub going_last : natural (field t i 5) ≤ end
      going_last = here.range.nests

      length_own : length (met space (pos a) S) ≡ natural (field t i 6)
      length_own = length_met space (pos a) S ∙ sym here.counts

      module _ {y : ℕ} (ey : y ≡ natural (field t i 5)) {c : ℕ} (ec : c ≡ natural (field t i 6)) {a' : ℕ} (ea : a' ≡ moved_by t i 7 a) where
        arrived : a' ≡ past a own
        arrived = ea ∙ change_is seeking b

        next_state : {left' k' : ℕ} {o' : List ℕ} → k' ≤ room → length o' ≡ length o → fill room (filling left k o) (met space (pos a) S) ≡ filling left' k' o'
            → FilledTo t space from end origin r skip room filled o₀ y a' again left' k' o'
        next_state {left'} {k'} {o'} kept long e = rw (arrived, ey) (record {
          upto = here.range.nests;
          since = omega (arith, v.since, here.range.ahead);
          kept = kept;
          long = omega (arith, v.long);
          same = long ∙ v.same;
          depth = v.depth;
          enough = pred v.enough;
          spare = omega (arith, v.spare, more, here.range.ahead);
          good = good_following t (pred v.enough) v.depth i end b (rw more at v.good);
          whole = v.whole;
          fits = after_fits;
          filled_is = v.filled_is ∙ ap (λ (s : Filling). s.filled) gone;
          out_is = v.out_is ∙ ap (λ (s : Filling). s.out) gone;
        })
          where
            gone : fill room (filling left k o) (met space (pos a) (ahead t v.enough from end i again)) ≡ fill room (filling left' k' o') (met space (pos (past a own)) rest)
            gone = stepped (filling left k o) ∙ ap (λ (s : Filling). fill room s (met space (pos (past a own)) rest)) e

        pub pass : c ≤ left → FilledTo t space from end origin r skip room filled o₀ y a' again (left - c) k o
        pass h =
            next_state v.kept refl
            (fill_skip room (met space (pos a) S) left k o (omega (arith, length_own)) ∙ alike (omega (arith, length_own)) refl refl)

        pub enter : left < c → {k' : ℕ} → k' ≡ (fill room (filling left k o) (element_met t space i a)).filled → {o' : List ℕ} → o' ≡ (fill room (filling left k o) (element_met t space i a)).out → k' ≤ room
            → FilledTo t space from end origin r skip room filled o₀ y a' again 0 k' o'
        unfolding element_met
        enter h p q kept =
            next_state kept (ap length q ∙ fill_long room (met space (pos a) S) (filling left k o))
            (alike (fill_left room (met space (pos a) S) (filling left k o) ∙ omega (arith, length_own)) (sym p) (sym q))

-- the loop's measure: a copy less, or a record less of this copy
fewer : (again n : ℕ) → 0 < again → (again - 1) * (n + 1) + n < again * (n + 1)
fewer zero n h = absurd (omega arith)
fewer (suc c) n h = let z : suc c - 1 ≡ c = omega arith in rw z (omega arith)

pub copy_less : (again from end i : ℕ) → 0 < again → end ≤ i → (again - 1) * (end - from + 1) + (end - from) < again * (end - from + 1) + (end - i)
copy_less again from end i g h = omega (arith, fewer again (end - from) g)

pub ruleset going = (begin, long_same, kept_k, done_filled, done_out, full_k, full_o, next_copy, pass, enter, rules)

pub ruleset GoingLess = (copy_less, rules)

pub ruleset going_needs = (site, going_high, going_low, going_far, going_first, going_last, rules)
