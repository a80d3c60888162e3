-- The steps to the page, of one call after another: planning, then locating, listing, writing or reading with the table that it left.
use mathlib.Core.Path.{◌≡◌, refl, sym, ap, ◌∙◌}
use mathlib.Core.List.{List, [], ◌∷◌, ◌++◌}
use mathlib.Core.Bool.{Bool, true, false, ◌&&◌}
use mathlib.Core.Option.{some}
use mathlib.Core.Logic.{◌⊎◌, inl, inr, ⊎_elim}
use Prim.Native.Nat.{ℕ, zero, suc, ◌+◌, ◌*◌, ◌-◌, ◌/◌, ◌≤◌, ◌<◌, min}
use native.Mathlib.Omega.{arith}
use borrow.Author.Tests.{lt-ltb, ltb-true}
use lib.Dec.{ltb}
use lib.IntN.{ℤ}
use lib.ListN.{length, take, drop, get_or, length-take, length-drop}
use lib.Seq.{take-take, take-append_seam, drop_at, get_or-take, get_or-drop}
use Rattle.scan.proofs.Tests.{lt_or_le}
use Rattle.cdi.specs.Lists.{given}
use Rattle.cdi.specs.Faults.{fault, accepted, refused}
use Rattle.cdi.specs.Text.{content}
use Rattle.cdi.specs.Tree.{end, tree}
use Rattle.cdi.specs.Walk.{Found, walk, total}
use Rattle.cdi.specs.Table.{records_of, table_of}
use Rattle.cdi.specs.Plans.{place_of, is_plan, segments_of, variable_of, locating}
use Rattle.cdi.specs.Planning.{Description, describe, cut, described, planned, placed, table_after}
use Rattle.cdi.specs.Access.{Setting, content_at, exact, setting_in, setting_of, integer, string, is_good_text, first_cause, write_causes, stored, start_in, written, window_after, read}
use Rattle.cdi.specs.Values.{with_sign, padded}
use Rattle.cdi.proofs.Tests.{both_right}
use Rattle.cdi.proofs.Quiet.{impossible}
use Rattle.cdi.proofs.PlanOf.{length_table, table_itself}
use Rattle.cdi.proofs.Room.{fits_table}
use Rattle.cdi.proofs.Promises.{table_is_plan, table_decodes, table_locates, nth_is, nth_none, count_is}
use Rattle.cdi.proofs.Back.{SixtyFour, Passed, passed, lies, good_text}
use Rattle.plan_stages.specs.declared.Planned.{Planned}
use Rattle.std.specs.Prelude.{Result, Ok, Err}
use Rattle.refusals.specs.declared.Refusal.{Refusal}
use Rattle.refusals.specs.Refusals.{refusal}
use Rattle.plan_stages.specs.Outlines.{sizes, answer_of}
use Rattle.plan.proofs.Promises.{told, Faultless, accepted_faultless, records_in_front}
use Rattle.locate.specs.Answers.{told_of}
use Rattle.locate.specs.declared.Variable.{Variable}
use Rattle.locate.specs.declared.Absent.{Absent}
use Rattle.locate.specs.declared.Absent.TheVariants.{NoVariable}
use Rattle.locate.proofs.Once.{one_case}
use Rattle.listing_fill.specs.Batch.{numbers_of, batch, listed}
use Rattle.maps.specs.Matches.{wanted_of}
use Rattle.maps.specs.declared.Wanted.{Wanted}
use Rattle.maps.specs.declared.Wanted.TheVariants.{Number, Event, Text}
use Rattle.access_kinds.specs.Told.{window_of}
use Rattle.access_writing.specs.Told.{written_of}
use Rattle.access_reading.specs.Told.{reading_of, ReadAt}
use Rattle.access_reading.specs.declared.Reading.{Reading}
use Rattle.access_reading.specs.declared.Reading.TheVariants as reading
use Rattle.access.specs.Told.{start_for}
use Rattle.access.proofs.Once.{fetch_once}
use Rattle.access.proofs.Promises as access
use Rattle.promises.proofs.Terms.{variable_at, numbers_at, echo}
use Rattle.promises.proofs.Steps.{counted_described}

-- ── batches ──

numbers_at_law : (fs : List Found) (rest : List ℕ) (j : ℕ) (o : Found) → j < length fs → take 5 (drop (j * 5) (numbers_of fs ++ rest)) ≡ numbers_at (get_or fs j o)
unfolding numbers_of
numbers_at_law [] rest j o l = absurd (omega arith)
numbers_at_law (f ∷ fs) rest zero o l = refl
numbers_at_law (f ∷ fs) rest (suc j) o l =
    let e : suc j * 5 ≡ suc (suc (suc (suc (suc (j * 5))))) = omega arith in
    rw e (numbers_at_law fs rest j o (omega arith))

length_numbers : (fs : List Found) → length (numbers_of fs) ≡ length fs * 5
unfolding numbers_of
length_numbers [] = refl
length_numbers (f ∷ fs) = omega (arith, length_numbers fs)

in_batch : (vs : List Found) (k : ℕ) (o : List ℕ) (j : ℕ) (f : Found) → j < length o / 5 → get_or (batch vs k o) j f ≡ get_or vs (k + j) f
unfolding batch
in_batch vs k o j f l = get_or-take (length o / 5) (drop k vs) j f l ∙ get_or-drop k vs j f

-- ── what is read of a value ──

text_in : (size at : ℕ) (text new : List ℕ) → length text ≤ size → take size (drop at new) ≡ padded size text → take (at + length text - at) (drop at new) ≡ text
unfolding padded
text_in size at text new h q =
    let e : at + length text - at ≡ length text = omega arith in
    rw e (sym (take-take (length text) size (drop at new) h) ∙ ap (take (length text)) q ∙ take-append_seam text _)

-- a zero has no sign
sign_of : (b : Bool) (m : ℕ) → with_sign (b && ltb 0 m) m ≡ with_sign b m
unfolding with_sign
sign_of false m = refl
sign_of true zero = refl
sign_of true (suc m) = rw (lt-ltb 0 (suc m) (omega arith))

echoed : (at : ℕ) (new : List ℕ) (q : Result Reading Refusal) (x : Wanted) (text : List ℕ) → reading_of new q ≡ accepted (record { value = wanted_of x text; writable = true }) → ReadAt at new q
    → (x ≡ Text → (take (at + length text - at) (drop at new) ≡ text) × (at + length text ≤ length new)) → q ≡ echo at x text
unfolding reading_of wanted_of ReadAt echo
echoed at new q (Number b m) text e r k =
    fetch_once at new _ q (Ok (reading.Integer (b && ltb 0 m) m true)) e (ap (λ z. accepted (record { value = integer z; writable = true })) (sign_of b m)) r (λ s. ltb-true 0 m (both_right b (ltb 0 m) s))
echoed at new q (Event i) text e r k = fetch_once at new _ q (Ok (reading.Event i true)) e refl r tt
echoed at new q Text text e r k =
    let z = k refl in
    fetch_once at new _ q (Ok (reading.Text at (at + length text) true)) e (ap (λ y. accepted (record { value = string y; writable = true })) z.0) r (refl, omega arith, z.1)

module _ (b : List ℕ) (t : List ℤ) {r : Result Planned Refusal} (answer : answer_of r ≡ planned b t) {n v : ℕ} (e : r ≡ Ok (sizes n v)) (c : List ℕ) (ends : content b ≡ some c) where
  same_text : (accepted_faultless b t answer e).text ≡ c
  same_text = let z = (accepted_faultless b t answer e).faultless.ends in cc

  no_fault : Faultless b t c
  no_fault = rw same_text at (accepted_faultless b t answer e).faultless

  records_are : n ≡ records_of (told c)
  records_are = (accepted_faultless b t answer e).records ∙ ap (λ (x : List ℕ). records_of (told x)) same_text

  variables_are : v ≡ total (told c)
  variables_are = (accepted_faultless b t answer e).variables ∙ ap (λ (x : List ℕ). total (told x)) same_text

  count_of_walk : v ≡ length (walk (told c))
  count_of_walk = variables_are ∙ sym (count_is (told c))

  abbrev d : Description
  d = describe (tree (cut c)) (tree (cut c))

  pub described_is : described b ≡ accepted d
  described_is =
      let f = no_fault in
      counted_described b {c = c} ((((((f.ends, f.allowed, f.opens), f.formed), f.ruled), f.inside), f.counted))

  module _ {u : List ℤ} (after : u ≡ table_after b t) where
    abbrev plan : List ℤ
    plan = take (8 * n) u

    pub plan_is : plan ≡ table_of (told c)
    plan_is = records_in_front b t answer e after ∙ ap (λ (x : List ℕ). table_of (told x)) same_text

    rest_is : drop (8 * n) u ≡ drop (8 * n) t
    unfolding placed
    rest_is =
        let l : length (table_of (told c)) ≡ 8 * n = length_table (told c) ∙ ap (λ k. 8 * k) (sym records_are) in
        ap (drop (8 * n)) (after ∙ fits_table b t d described_is no_fault.roomy)
        ∙ drop_at (table_of (told c)) (drop (length (table_of (told c))) t) (8 * n) l
        ∙ ap (λ k. drop k t) l

    passes_test : is_plan plan ≡ true
    passes_test = ap is_plan plan_is ∙ table_is_plan b d described_is

    pub made : (plan ≡ table_of (told c)) × (drop (8 * n) u ≡ drop (8 * n) t) × (n ≡ records_of (told c)) × (v ≡ length (walk (told c))) × (is_plan plan ≡ true)
    made = (plan_is, rest_is, records_are, count_of_walk, passes_test)

    -- variable k, as the table and the text describe it
    module _ (k : ℕ) (o : Found) where
      abbrev entry : Found
      entry = get_or (walk (told c)) k o

      abbrev setting : Setting
      setting = record { variable = entry; content = given (content_at (place_of (table_of (told c)) entry.number) d.nodes) end (λ k. k) }

      setting_is_law : k < v → setting_of b plan k ≡ accepted setting
      unfolding setting_of exact setting_in
      setting_is_law h = rw (described_is, plan_is, table_itself (table_of (told c)), nth_is (told c) k o (omega (arith, variables_are)))

      no_setting : v ≤ k → setting_of b plan k ≡ refused (fault 21 0)
      unfolding setting_of exact setting_in
      no_setting h = rw (described_is, plan_is, table_itself (table_of (told c)), nth_none (told c) k (omega (arith, variables_are)))

      -- where there is a setting, k is below the count
      found_below : (s : Setting) → setting_of b plan k ≡ accepted s → k < v
      found_below s q = ⊎_elim (λ l. l) (λ l. let z = no_setting l in impossible (cc)) (lt_or_le k v)

    -- ── locating ──

    same : (k : ℕ) → locating plan k ≡ variable_of (told c) k
    same k = ap (λ (x : List ℤ). locating x k) plan_is ∙ table_locates b d described_is k

    module _ (k : ℕ) (q : Result Variable Absent) (is : told_of q ≡ locating plan k) where
      located_is : k < v → (o : Found) → q ≡ variable_at (get_or (walk (told c)) k o)
      unfolding told_of
      located_is h o = one_case q _ (is ∙ same k ∙ nth_is (told c) k o (omega (arith, variables_are)))

      not_located_is : v ≤ k → q ≡ Err NoVariable
      unfolding told_of
      not_located_is h = one_case q (Err NoVariable) (is ∙ same k ∙ nth_none (told c) k (omega (arith, variables_are)))

      pub located : (k < v → (o : Found) → q ≡ variable_at (get_or (walk (told c)) k o)) × (v ≤ k → q ≡ Err NoVariable)
      located = (located_is, not_located_is)

    -- ── listing ──

    walk_is : walk (segments_of plan) ≡ walk (told c)
    walk_is = ap (λ (x : List ℤ). walk (segments_of x)) plan_is ∙ ap walk (table_decodes b d described_is)

    module _ (k : ℕ) (o : List ℕ) {m : ℕ} (counts : m ≡ length (batch (walk (segments_of plan)) k o)) where
      count_is_batch : m ≡ length (batch (walk (told c)) k o)
      count_is_batch = counts ∙ ap (λ (x : List Found). length (batch x k o)) walk_is

      listed_count : m ≡ min (length o / 5) (v - k)
      unfolding batch
      listed_count =
          count_is_batch ∙ length-take (length o / 5) (drop k (walk (told c)))
          ∙ ap (min (length o / 5)) (length-drop k (walk (told c)) ∙ ap (λ x. x - k) (sym count_of_walk))

      module _ {p : List ℕ} (fills : p ≡ listed (walk (segments_of plan)) k o) where
        slice_is : p ≡ listed (walk (told c)) k o
        slice_is = fills ∙ ap (λ (x : List Found). listed x k o) walk_is

        listed_entry : (j : ℕ) → j < m → (f : Found) → take 5 (drop (j * 5) p) ≡ numbers_at (get_or (walk (told c)) (k + j) f)
        unfolding listed
        listed_entry j l f =
            ap (λ x. take 5 (drop (j * 5) x)) slice_is
            ∙ numbers_at_law (batch (walk (told c)) k o) _ j f (omega (arith, count_is_batch))
            ∙ ap numbers_at (in_batch (walk (told c)) k o j f (omega (arith, listed_count)))

        listed_rest : drop (m * 5) p ≡ drop (m * 5) o
        unfolding listed
        listed_rest =
            let fs = batch (walk (told c)) k o in
            ap (drop (m * 5)) slice_is
            ∙ drop_at (numbers_of fs) _ (m * 5) (length_numbers fs ∙ ap (λ x. x * 5) (sym count_is_batch))
            ∙ ap (λ x. drop (x * 5) o) (sym count_is_batch)

        pub lists : (m ≡ min (length o / 5) (v - k)) × ((j : ℕ) → j < m → (f : Found) → take 5 (drop (j * 5) p) ≡ numbers_at (get_or (walk (told c)) (k + j) f)) × (drop (m * 5) p ≡ drop (m * 5) o)
        lists = (listed_count, listed_entry, listed_rest)

    -- ── writing and reading ──

    module _ (k space first : ℕ) (bytes : List ℕ) (x : Wanted) (text : List ℕ) {s : Result (Unit {0}) Refusal} {new : List ℕ}
        (said : written_of s ≡ written b plan k (window_of space first bytes) (wanted_of x text)) (left : new ≡ window_after b plan k (window_of space first bytes) (wanted_of x text))
        (ok : s ≡ (Ok tt)) (o : Found) where
      abbrev f : Found
      f = get_or (walk (told c)) k o

      written_below : k < v
      written_below = access.variable_found b plan k space first bytes (wanted_of x text) said left ok (λ z q. found_below k o z q)

      abbrev its : Setting
      its = setting k o

      found : setting_of b plan k ≡ accepted its
      found = setting_is_law k o written_below

      causes : first_cause (write_causes (window_of space first bytes) (wanted_of x text) its) ≡ accepted tt
      unfolding written written_of
      causes = let z : written b plan k (window_of space first bytes) (wanted_of x text) ≡ accepted tt = sym said ∙ ap written_of ok in rw found at z

      all_passed : Passed (window_of space first bytes) (wanted_of x text) its
      all_passed = passed _ _ _ causes

      pub lies_inside : (k < v) × (space ≡ f.space) × (first ≤ f.address) × (f.address + f.size ≤ first + length bytes)
      lies_inside = let l = lies (window_of space first bytes) f all_passed.inside in (written_below, l.space, l.low, l.high)

      pub stored_is : take f.size (drop (f.address - first) new) ≡ stored f.size (wanted_of x text)
      unfolding start_in
      stored_is = access.value_stored b plan k space first bytes (wanted_of x text) said left ok its found

      long_as_before : length new ≡ length bytes
      long_as_before = access.length_kept b plan k space first bytes (wanted_of x text) said left ok its found

      others_kept : (i z : ℕ) → (i < f.address - first) ⊎ (f.address - first + f.size ≤ i) → get_or new i z ≡ get_or bytes i z
      unfolding start_in
      others_kept i z (inl l) = access.before_kept b plan k space first bytes (wanted_of x text) said left ok its found i z l
      others_kept i z (inr l) = access.behind_kept b plan k space first bytes (wanted_of x text) said left ok its found i z l

      pub only_its_bytes : (length new ≡ length bytes) × ((i z : ℕ) → (i < f.address - first) ⊎ (f.address - first + f.size ≤ i) → get_or new i z ≡ get_or bytes i z)
      only_its_bytes = (long_as_before, others_kept)

      start_is : start_for b plan k first ≡ f.address - first
      unfolding start_for
      start_is = rw (found, start_for)

      module _ (q : Result Reading Refusal) (is : reading_of new q ≡ read b plan k (window_of space first new)) where
        read_value : SixtyFour (wanted_of x text) → reading_of new q ≡ accepted (record { value = wanted_of x text; writable = true })
        read_value h = access.reads_back b plan k space first bytes (wanted_of x text) said left ok h q is

        text_stands : x ≡ Text → (take (f.address - first + length text - (f.address - first)) (drop (f.address - first) new) ≡ text) × (f.address - first + length text ≤ length new)
        unfolding wanted_of stored
        text_stands y =
            let g : is_good_text its (wanted_of Text text) ≡ true = rw y at all_passed.text in
            let l = (good_text its text g).short in
            let i = lies_inside in
            let p : take f.size (drop (f.address - first) new) ≡ stored f.size (wanted_of Text text) = rw y at stored_is in
            (text_in f.size (f.address - first) text new (omega arith) p, omega (arith, i.2, i.3, long_as_before))

        pub read_back : SixtyFour (wanted_of x text) → ReadAt (start_for b plan k first) new q → (q ≡ echo (f.address - first) x text) × (reading_of new q ≡ accepted (record { value = wanted_of x text; writable = true }))
        read_back h r = (echoed (f.address - first) new q x text (read_value h) (rw start_is at r) text_stands, read_value h)
