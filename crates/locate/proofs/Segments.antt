-- The way to the segment that holds variable n, and the whole answer.
use mathlib.Core.Path.{◌≡◌, refl, sym, ap, ◌∙◌}
use mathlib.Core.List.{List, [], ◌∷◌, ◌++◌, map, map-append}
use mathlib.Core.Bool.{Bool, true, false, ◌&&◌}
use Prim.Native.Nat.{ℕ, suc, pred, ◌+◌, ◌-◌, ◌*◌, ◌/◌, ◌%◌, ◌≤◌, ◌<◌}
use native.Mathlib.Omega.{arith}
use borrow.Author.Rules.{rules}
use borrow.Author.Tests.{leb-true, eq-eqb, ne_eqb}
use lib.Dec.{leb, eqb}
use lib.ListN.{length, get_or, get_or-append}
use lib.Seq.{get_or-append-add}
use lib.IntN.{ℤ, pos}
use Rattle.cdi.specs.Faults.{Answer}
use Rattle.cdi.specs.Faults.Answer.{accepted}
use Rattle.cdi.specs.Rules.{natural}
use Rattle.cdi.specs.Walk.{Segment, Variable, Found, found, Step, count, variables, segment_steps, segment_keeps, after_segment, walk_from, walk, total}
use Rattle.cdi.specs.Table.{same_number}
use Rattle.cdi.specs.Plans.{field, extra_of, next_of, segment_fits, told, items_in, record_segment, segments_from, records_in, segments_of, segments_good, is_plan, variable_of, locating}
use Rattle.cdi.proofs.Tests.{parts, both_left, both_right}
use Rattle.cdi.proofs.Signs.{same_number_law}
use Rattle.locate_plan.specs.Judging.{good_in}
use Rattle.locate.specs.Answers.{told_of, Held}
use Rattle.locate_ways.specs.Finding.{answer, inside_of, standing, Finds, Site}
use Rattle.std.specs.Prelude.{Result, Ok, Err}
use Rattle.locate.specs.declared.Variable.{Variable as One}
use Rattle.locate.specs.declared.Absent.{Absent}
use Rattle.locate.specs.declared.Absent.TheVariants.{NotAPlan, NoVariable}
use Rattle.locate_rows.proofs.Numbers.{nots}
use Rattle.locate_plan.proofs.Subtrees.{records_between}
use Rattle.locate_plan.proofs.Tops.{Topped, topped, segments_more, good_segments_more, segments_out, segment_keeps_law}
use Rattle.locate_ways.proofs.Ways.{none, seen, length_seen}

-- what a good segment tells
module _ (t : List ℤ) (k i n : ℕ) (b : i < n) (h : segments_good t (suc k) i n ≡ true) where
  pub good_segment : (segment_fits t i n ≡ true) × (good_in t 3 (i + 1) (next_of t i) ≡ true) × (told t i (segment_steps i (record_segment t i)) ≡ true)
      × (segment_keeps i (record_segment t i) ≡ true) × (segments_good t k (next_of t i) n ≡ true)
  good_segment =
      let G = good_in t 3 (i + 1) (next_of t i) in
      let T = told t i (segment_steps i (record_segment t i)) in
      let K = segment_keeps i (record_segment t i) in
      let F = segments_good t k (next_of t i) n in
      let p = parts (segment_fits t i n) (G && ((T && K) && F)) (sym (good_segments_more t k i n b) ∙ h) in
      let q = parts G ((T && K) && F) p.1 in
      let r = parts (T && K) F q.1 in
      let s = parts T K r.0 in
      (p.0, q.0, s.0, s.1, r.1)

-- ── the walk of segments, as answers ──

answers : (space : ℕ) (vs : List Variable) → map accepted (map (found space) vs) ≡ map (answer space) vs
unfolding answer
answers space [] = refl
answers space (v ∷ vs) = ap (λ (l : List (Answer Found)). accepted (found space v) ∷ l) (answers space vs)

-- the answers of the segments from record i on
abbrev pub listed : ℕ → List Segment → List (Answer Found)
listed i gs = map accepted (walk_from i gs)

pub listed_more : (i : ℕ) (g : Segment) (gs : List Segment) → listed i (g ∷ gs) ≡ seen g.space (pos g.origin) (segment_steps i g) ++ listed (after_segment i g) gs
unfolding walk_from
listed_more i g gs =
    map-append {B = Answer Found} accepted (map (found g.space) (variables (pos g.origin) (segment_steps i g))) (walk_from (after_segment i g) gs)
    ∙ ap (λ (l : List (Answer Found)). l ++ listed (after_segment i g) gs) (answers g.space (variables (pos g.origin) (segment_steps i g)))

-- ── the loop ──

-- what is known at record i, with `left` variables to pass
pub record Passing (t : List ℤ) (m n i left : ℕ) : Type 0 where
  pub upto : i ≤ n
  pub few : n ≤ 4095
  pub long : n * 8 ≤ length t
  pub enough : ℕ
  pub spare : n ≤ i + enough
  pub good : segments_good t enough i n ≡ true
  pub whole : variable_of (segments_of t) m ≡ get_or (listed i (segments_from t enough i n)) left none

pub begin : (t : List ℤ) (m : ℕ) → is_plan t ≡ true → Passing t m (length t / 8) 0 m
unfolding is_plan records_in segments_of variable_of walk
begin t m h =
    let n = length t / 8 in
    let G = segments_good t n 0 n in
    let C = leb (total (segments_from t n 0 n)) 1000000 in
    let p = parts (leb n 4095) (G && C) (both_right (eqb (length t % 8) 0) (leb n 4095 && (G && C)) h) in
    record {
      upto = omega arith;
      few = leb-true n 4095 p.0;
      long = omega arith;
      enough = n;
      spare = omega arith;
      good = both_left G C p.1;
      whole = refl;
    }

module _ {t : List ℤ} {m n i left : ℕ} (v : Passing t m n i left) where
  pub no_segment : n ≤ i → told_of (Err NoVariable) ≡ variable_of (segments_of t) m
  unfolding told_of walk_from
  no_segment h = sym (v.whole ∙ rw (segments_out t v.enough i n h))

  module _ (b : i < n) where
    more : v.enough ≡ suc (pred v.enough)
    more = omega (arith, v.spare)

    told_all : (segment_fits t i n ≡ true) × (good_in t 3 (i + 1) (next_of t i) ≡ true) × (told t i (segment_steps i (record_segment t i)) ≡ true)
        × (segment_keeps i (record_segment t i) ≡ true) × (segments_good t (pred v.enough) (next_of t i) n ≡ true)
    told_all = good_segment t (pred v.enough) i n b (rw more at v.good)

    top : Topped t i n
    top = topped t i n told_all.0

    pub top_first : i < natural (field t i 5)
    top_first = top.ahead

    pub top_last : natural (field t i 5) ≤ n
    top_last = top.nests

    abbrev S : List Step
    S = segment_steps i (record_segment t i)

    counted : natural (field t i 6) ≡ count S
    unfolding told natural
    counted = ap natural (same_number_law (field t i 6) (pos (count S)) (both_left (same_number (field t i 6) (pos (count S))) _ told_all.2))

    numbered : after_segment i (record_segment t i) ≡ next_of t i
    unfolding after_segment record_segment items_in
    numbered = records_between t (next_of t i - (i + 1)) 3 (i + 1) (next_of t i) (omega (arith, top.ahead)) (omega arith) told_all.1

    abbrev own : List (Answer Found)
    own = seen (extra_of t i) (pos (natural (field t i 2))) (segment_steps i (record_segment t i))

    abbrev rest : List (Answer Found)
    rest = listed (next_of t i) (segments_from t (pred v.enough) (next_of t i) n)

    here_listed : listed i (record_segment t i ∷ segments_from t (pred v.enough) (next_of t i) n) ≡ own ++ rest
    unfolding record_segment
    here_listed =
        listed_more i (record_segment t i) (segments_from t (pred v.enough) (next_of t i) n)
        ∙ ap (λ (j : ℕ). own ++ listed j (segments_from t (pred v.enough) (next_of t i) n)) numbered

    here : variable_of (segments_of t) m ≡ get_or (own ++ rest) left none
    here = v.whole ∙ rw (more, segments_more t (pred v.enough) i n b, here_listed)

    own_long : length own ≡ natural (field t i 6)
    own_long = length_seen (extra_of t i) (pos (natural (field t i 2))) S ∙ sym counted

    module _ {y : ℕ} (ey : y ≡ natural (field t i 5)) {c : ℕ} (ec : c ≡ natural (field t i 6)) where
      pub few_before : y ≤ 4095
      few_before = omega (arith, v.few, top.nests)

      pub skip : c ≤ left → Passing t m n y (left - c)
      skip h = rw (ey, ec) (record {
        upto = top.nests;
        few = v.few;
        long = v.long;
        enough = pred v.enough;
        spare = omega (arith, v.spare, more, top.ahead);
        good = told_all.4;
        whole = here ∙ behind;
      })
        where
          sums : length own + (left - natural (field t i 6)) ≡ left
          sums = omega (arith, own_long)

          behind : get_or (own ++ rest) left none ≡ get_or rest (left - natural (field t i 6)) none
          behind = rw sums at (get_or-append-add own rest (left - natural (field t i 6)) none)

      module _ (h : left < c) {o : ℕ} (eo : o ≡ natural (field t i 2)) where
        pub segment_site : Site t (i + 1) y o
        segment_site = rw (ey, eo) (record { depth = 3; good = told_all.1; keeps = sym (segment_keeps_law t i top.origin) ∙ told_all.3 })

        pub enters : {s : ℕ} → s ≡ natural (field t i 3) → {w : ℕ} → Finds t (i + 1) y o left w → (z : Result One Absent) → told_of z ≡ standing t s w → told_of z ≡ variable_of (segments_of t) m
        unfolding inside_of segment_steps record_segment
        enters {s} es f z q = q ∙ f.same s ∙ rw (es, ey, eo) (sym (here ∙ get_or-append own rest none left (omega (arith, own_long))))

-- ── what was found ──

module _ {w : ℕ} where
  pub told_none : (t : List ℤ) (space : ℕ) → w ≡ 18446744073709551615 → told_of (Err NoVariable) ≡ standing t space w
  unfolding told_of standing
  told_none t space h = sym (rw (eq-eqb w 18446744073709551615 h))

  module _ (h : w ≡ 18446744073709551615 → ⊥) where
    pub told_record : {l : ℕ} → ((w ≡ 18446744073709551615 → ⊥) → w % 4096 * 8 + 8 ≤ l) → w % 4096 * 8 + 8 ≤ l
    told_record f = f h

    pub told_is : (t : List ℤ) (space : ℕ) {z k : ℕ} → z ≡ natural (field t (w % 4096) 3) → k ≡ natural (field t (w % 4096) 0)
        → told_of (Ok (record { «record» = w % 4096; space = space; address = w / 4096; size = z; kind = k })) ≡ standing t space w
    unfolding told_of standing
    told_is t space ez ek = rw (ez, ek) (sym (rw (ne_eqb w 18446744073709551615 h)))

pub none_held : (t : List ℤ) → Held t (Err NoVariable)
unfolding Held
none_held t = tt

pub told_held : (t : List ℤ) (r s a z k : ℕ) → r * 8 + 8 ≤ length t → Held t (Ok (record { «record» = r; space = s; address = a; size = z; kind = k }))
unfolding Held
told_held t r s a z k h = h

pub ruleset standing_for = (told_none, told_record, told_is, none_held, told_held, rules)

-- it stands in a record of the table
pub found_held : {t : List ℤ} {i e a n w : ℕ} → Finds t i e a n w → (w ≡ 18446744073709551615 → ⊥) → w % 4096 * 8 + 8 ≤ length t
found_held f = f.held

pub ruleset passing = (begin, no_segment, skip, enters, none_held, rules)

pub ruleset into_segment = (top_first, top_last, segment_site, few_before, found_held, rules)

-- ── the whole answer ──

module _ (t : List ℤ) (n : ℕ) {a : Bool} (fa : a ≡ is_plan t) where
  pub no_plan : a ≡ false → told_of (Err NotAPlan) ≡ locating t n
  unfolding locating told_of
  no_plan h = sym (rw (← fa, h))

  pub located : a ≡ true → (r : Result One Absent) → told_of r ≡ variable_of (segments_of t) n → told_of r ≡ locating t n
  unfolding locating
  located h r q = q ∙ sym (rw (← fa, h))

pub a_plan : (t : List ℤ) {a : Bool} → a ≡ is_plan t → a ≡ true → is_plan t ≡ true
a_plan t p h = sym p ∙ h

pub ruleset answering = (no_plan, located, a_plan, nots, rules)
