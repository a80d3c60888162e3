-- The loop over the segments, and the batch that it leaves.
use mathlib.Core.Path.{◌≡◌, refl, sym, ap, ◌∙◌}
use mathlib.Core.List.{List, ◌∷◌, ◌++◌, append-nil}
use mathlib.Core.Bool.{true, ◌&&◌}
use Prim.Native.Nat.{ℕ, suc, pred, ◌+◌, ◌*◌, ◌-◌, ◌/◌, ◌%◌, ◌≤◌, ◌<◌}
use native.Mathlib.Omega.{arith}
use borrow.Author.Rules.{rules}
use lib.Dec.{leb, eqb}
use lib.ListN.{length}
use lib.IntN.{ℤ, pos}
use Rattle.cdi.specs.Rules.{natural}
use Rattle.cdi.specs.Walk.{Found, Step, steps, copies, count, segment_steps, segment_keeps, after_segment, walk_from, walk, total}
use Rattle.cdi.specs.Table.{same_number}
use Rattle.cdi.specs.Plans.{field, extra_of, next_of, segment_fits, told, items_in, record_segment, segments_from, records_in, segments_of, segments_good, is_plan}
use Rattle.cdi.proofs.Tests.{parts, both_left, both_right}
use Rattle.cdi.proofs.Signs.{same_number_law}
use Rattle.extent.proofs.Joins.{repeat_once}
use Rattle.locate_plan.specs.Judging.{good_in}
use Rattle.locate_plan.proofs.Subtrees.{records_between}
use Rattle.locate_plan.proofs.Tops.{Topped, topped, segments_more, segments_out, segment_keeps_law}
use Rattle.locate.proofs.Segments.{good_segment}
use Rattle.listing_fill.specs.Batch.{batch, listed}
use Rattle.listing_fill.specs.Filling.{Filling, filling, fill, met, copies_met, Copying}
use Rattle.listing_fill.proofs.Batches.{length_met, fill_append, fill_skip, fill_left, list_count, list_out}
use Rattle.listing_fill.proofs.Going.{alike, fill_long}

-- what is known at record i, with `left` variables to skip and k in the batch
pub record ListedTo (t : List ℤ) (n : ℕ) (o₀ : List ℕ) (end room i left k : ℕ) (o : List ℕ) : Type 0 where
  pub upto : i ≤ end
  pub held : end * 8 ≤ length t
  pub rooms : room ≡ length o₀ / 5
  pub kept : k ≤ room
  pub same : length o ≡ length o₀
  pub enough : ℕ
  pub spare : end ≤ i + enough
  pub good : segments_good t enough i end ≡ true
  pub whole : fill room (filling n 0 o₀) (walk (segments_of t)) ≡ fill room (filling left k o) (walk_from i (segments_from t enough i end))

pub begin_list : (t : List ℤ) (n : ℕ) (o : List ℕ) → is_plan t ≡ true → ListedTo t n o (length t / 8) (length o / 5) 0 n 0 o
unfolding is_plan records_in segments_of walk
begin_list t n o h =
    let m = length t / 8 in
    let G = segments_good t m 0 m in
    let C = leb (total (segments_from t m 0 m)) 1000000 in
    let p = parts (leb m 4095) (G && C) (both_right (eqb (length t % 8) 0) (leb m 4095 && (G && C)) h) in
    record {
      upto = omega arith;
      held = omega arith;
      rooms = refl;
      kept = omega arith;
      same = refl;
      enough = m;
      spare = omega arith;
      good = both_left G C p.1;
      whole = refl;
    }

module _ {t : List ℤ} {n end room i left k : ℕ} {o₀ o : List ℕ} (v : ListedTo t n o₀ end room i left k o) where
  finished : end ≤ i → fill room (filling n 0 o₀) (walk (segments_of t)) ≡ filling left k o
  unfolding walk_from fill
  finished h = v.whole ∙ rw (segments_out t v.enough i end h)

  pub list_is : end ≤ i → k ≡ length (batch (walk (segments_of t)) n o₀)
  list_is h = sym (ap (λ (s : Filling). s.filled) (finished h)) ∙ rw v.rooms (list_count (walk (segments_of t)) n o₀)

  pub list_holds : end ≤ i → o ≡ listed (walk (segments_of t)) n o₀
  list_holds h = sym (ap (λ (s : Filling). s.out) (finished h)) ∙ rw v.rooms (list_out (walk (segments_of t)) n o₀)

  pub list_same : length o ≡ length o₀
  list_same = v.same

  pub list_room : room * 5 ≤ length o
  list_room = omega (arith, v.rooms, v.same)

  module _ (b : i < end) where
    more : v.enough ≡ suc (pred v.enough)
    more = omega (arith, v.spare)

    told_all : (segment_fits t i end ≡ true) × (good_in t 3 (i + 1) (next_of t i) ≡ true) × (told t i (segment_steps i (record_segment t i)) ≡ true)
        × (segment_keeps i (record_segment t i) ≡ true) × (segments_good t (pred v.enough) (next_of t i) end ≡ true)
    told_all = good_segment t (pred v.enough) i end b (rw more at v.good)

    top : Topped t i end
    top = topped t i end told_all.0

    pub list_first : i < natural (field t i 5)
    list_first = top.ahead

    pub list_last : natural (field t i 5) ≤ end
    list_last = top.nests

    abbrev S : List Step
    S = segment_steps i (record_segment t i)

    counted : natural (field t i 6) ≡ count S
    unfolding told natural
    counted = ap natural (same_number_law (field t i 6) (pos (count S)) (both_left (same_number (field t i 6) (pos (count S))) _ told_all.2))

    numbered : after_segment i (record_segment t i) ≡ next_of t i
    unfolding after_segment record_segment items_in
    numbered = records_between t (next_of t i - (i + 1)) 3 (i + 1) (next_of t i) (omega (arith, top.ahead)) (omega arith) told_all.1

    abbrev own : List Found
    own = met (extra_of t i) (pos (natural (field t i 2))) (segment_steps i (record_segment t i))

    abbrev rest : List Found
    rest = walk_from (next_of t i) (segments_from t (pred v.enough) (next_of t i) end)

    walked : walk_from i (record_segment t i ∷ segments_from t (pred v.enough) (next_of t i) end) ≡ own ++ rest
    unfolding walk_from record_segment met
    walked = ap (λ (j : ℕ). own ++ walk_from j (segments_from t (pred v.enough) (next_of t i) end)) numbered

    here : fill room (filling n 0 o₀) (walk (segments_of t)) ≡ fill room (fill room (filling left k o) own) rest
    here = v.whole ∙ rw (more, segments_more t (pred v.enough) i end b, walked) (fill_append room (filling left k o) own rest)

    own_long : length own ≡ natural (field t i 6)
    own_long = length_met (extra_of t i) (pos (natural (field t i 2))) S ∙ sym counted

    module _ {y : ℕ} (ey : y ≡ natural (field t i 5)) {c : ℕ} (ec : c ≡ natural (field t i 6)) where
      next_state : {left' k' : ℕ} {o' : List ℕ} → k' ≤ room → length o' ≡ length o → fill room (filling left k o) own ≡ filling left' k' o' → ListedTo t n o₀ end room y left' k' o'
      next_state {left'} {k'} {o'} kept long e = rw ey (record {
        upto = top.nests;
        held = v.held;
        rooms = v.rooms;
        kept = kept;
        same = long ∙ v.same;
        enough = pred v.enough;
        spare = omega (arith, v.spare, more, top.ahead);
        good = told_all.4;
        whole = here ∙ ap (λ (s : Filling). fill room s rest) e;
      })

      pub list_skip : c ≤ left → ListedTo t n o₀ end room y (left - c) k o
      list_skip h = next_state v.kept refl (fill_skip room own left k o (omega (arith, own_long)) ∙ alike (omega (arith, own_long)) refl refl)

      module _ (h : left < c) {a : ℕ} (ea : a ≡ natural (field t i 2)) where
        pub list_copying : Copying t (i + 1) y a 1
        list_copying = rw (ey, ea) (record {
          some = omega arith;
          depth = 3;
          good = told_all.1;
          keeps = rw repeat_once (sym (segment_keeps_law t i top.origin) ∙ told_all.3);
        })

        module _ {s : ℕ} (es : s ≡ natural (field t i 3)) where
          alone : copies_met t s (i + 1) y a 1 ≡ own
          unfolding copies_met copies segment_steps record_segment
          alone = rw (ey, ea, es) (ap (λ (l : List Step). met (extra_of t i) (pos (natural (field t i 2))) l) (append-nil (steps (i + 1) (items_in t (i + 1) (next_of t i)))))

          pub list_enter : {k' : ℕ} → k' ≡ (fill room (filling left k o) (copies_met t s (i + 1) y a 1)).filled → {o' : List ℕ} → o' ≡ (fill room (filling left k o) (copies_met t s (i + 1) y a 1)).out
              → k' ≤ room → ListedTo t n o₀ end room y 0 k' o'
          list_enter p q kept =
              next_state kept (ap length q ∙ fill_long room (copies_met t s (i + 1) y a 1) (filling left k o))
              (alike (fill_left room own (filling left k o) ∙ omega (arith, own_long)) (sym (p ∙ rw alone)) (sym (q ∙ rw alone)))

pub ruleset list_loop = (begin_list, list_is, list_holds, list_same, list_skip, list_enter, rules)

pub ruleset list_needs = (list_first, list_last, list_room, list_copying, rules)
