-- What the bytes of a variable say.
use mathlib.Core.Path.{◌≡◌, refl, sym, ap, ◌∙◌}
use mathlib.Core.List.{List, []}
use mathlib.Core.Bool.{Bool, true, false, cond, not}
use Prim.Native.Nat.{ℕ, ◌+◌, ◌-◌, ◌≤◌, ◌<◌}
use native.Mathlib.Omega.{arith}
use borrow.Author.Rules.{rules}
use borrow.Author.Tests.{ne_eqb, eqb-true, eqb-false}
use lib.Dec.{eqb}
use lib.ListN.{length, take, drop, length-take}
use lib.Seq.{take-take}
use Rattle.cdi.specs.Lists.{ascii}
use Rattle.cdi.specs.Faults.{fault, accepted, refused, is_accepted}
use Rattle.cdi.specs.Text.{zero_from, is_utf8}
use Rattle.cdi.specs.Rules.{bound_of, is_signed, bounds_of}
use Rattle.cdi.specs.Plans.{size_fits}
use Rattle.cdi.specs.Values.{with_sign, value_of, uncomplement}
use Rattle.cdi.specs.Access as A
use Rattle.cdi.specs.Access.{Window, Value, integer, string, first_cause, read_causes, start_in, own_bytes, text_in, value_in, read_from}
use Rattle.cdi.proofs.Quiet.{impossible}
use Rattle.cdi.proofs.Stages.{first_zero}
use Rattle.cdi.proofs.Back.{Lies, lies, event_size}
use Rattle.terms.specs.Wholes.{whole_of, Plain}
use Rattle.values.specs.Held.{zero_at}
use Rattle.terms.specs.declared.Whole.{Whole}
use Rattle.maps.specs.Matches.{wanted_of}
use Rattle.maps.specs.declared.Wanted.TheVariants.{Number, Event, Text}
use Rattle.settings.specs.Contents.{content_in}
use Rattle.access_kinds.specs.Told.{setting_is, Good, window_of, inside_by, Decides, read_cause}
use Rattle.access_order.specs.Told.{first_of, cause_of}
use Rattle.access_reading.specs.Told.{reading_of, ReadAt, ReadsAs, as_read}
use Rattle.access_kinds.specs.declared.Setting.{Setting}
use Rattle.refusals.specs.declared.Refusal.{Refusal}
use Rattle.refusals.specs.Refusals.{refusal}
use Rattle.std.specs.Prelude.{Option, Some, None, Result, Ok, Err}
use Rattle.std.specs.Option.{is_some}
use Rattle.access_reading.specs.declared.Reading.{Reading}
use Rattle.access_reading.specs.declared.Reading.TheVariants as reading
use Rattle.access_kinds.proofs.Deciding.{read_decides, inside_is, int_least, int_most, good_inside}
use Rattle.access_order.proofs.Ordering.{cause_accepted}
use Rattle.access_kinds.proofs.Owned.{own_length}

-- ── any kind ──

is_not : (f : Bool) {b : Bool} → b ≡ not f → not b ≡ f
is_not true e = rw e
is_not false e = rw e

module _ {s : A.Setting} {i : Bool} (bytes own : List ℕ) (q : Result Reading Refusal) where
  reads : (v : Value) {r : Option ℕ} {f : Bool} → value_in s own ≡ accepted v → Decides s i v r → is_some r ≡ not f → reading_of bytes q ≡ accepted (record { value = v; writable = f }) → ReadsAs s i bytes own q
  unfolding as_read
  reads v {r} {f} e x k z = record {
    of = λ w ei. z ∙ ap (λ (g : Bool). accepted (record { value = v; writable = g })) (sym (is_not f k) ∙ sym (cause_accepted r) ∙ ap is_accepted (x.of w ei)) ∙ sym (rw e);
  }

  reads_not : value_in s own ≡ refused (fault 28 0) → reading_of bytes q ≡ refused (fault 28 0) → ReadsAs s i bytes own q
  unfolding as_read
  reads_not e z = record { of = λ w ei. z ∙ sym (rw e) }

pub refused_anywhere : (at : ℕ) (bytes : List ℕ) (r : Refusal) → ReadAt at bytes (Err r)
unfolding ReadAt
refused_anywhere at bytes r = tt

module _ (c : List ℕ) (s : Setting) (i : Bool) (bytes : List ℕ) (from to : ℕ) where
  abbrev own : List ℕ
  own = take (to - from) (drop from bytes)

  -- ── ints ──

  module _ (k : s.kind ≡ 3) (l : from + s.size ≡ to) (h : to ≤ length bytes) where
    pub int_low : Good c s → 1 ≤ length (take (to - from) (drop from bytes))
    int_low g = omega (arith, own_length from to s.size bytes l h, int_least g k)

    pub int_high : Good c s → length (take (to - from) (drop from bytes)) ≤ 8
    int_high g = omega (arith, own_length from to s.size bytes l h, int_most g k)

    module _ {z : Bool} (e : z ≡ is_signed (bound_of (ascii "min") (content_in c s.part))) (w : Whole) (f : whole_of w ≡ uncomplement z (length own) (value_of own)) where
      int_value : value_in (setting_is c s) own ≡ accepted (integer (with_sign w.negative w.magnitude))
      unfolding value_in setting_is bounds_of whole_of
      int_value = rw k (ap (λ x. accepted (integer x)) (sym (f ∙ rw (own_length from to s.size bytes l h, e) refl)))

      pub reads_integer : {r : Option ℕ} → Decides (setting_is c s) i (wanted_of (Number w.negative w.magnitude) []) r
          → {f : Bool} → is_some r ≡ not f → ReadsAs (setting_is c s) i bytes own (Ok (reading.Integer w.negative w.magnitude f))
      unfolding wanted_of reading_of
      reads_integer x k = reads bytes own _ _ int_value x k refl

  pub integer_plain : (w : Whole) → Plain w → (f : Bool) → ReadAt from bytes (Ok (reading.Integer w.negative w.magnitude f))
  unfolding Plain ReadAt
  integer_plain w p f = p

  -- ── eventids ──

  module _ (k : s.kind ≡ 5) (l : from + s.size ≡ to) (h : to ≤ length bytes) where
    pub event_high : Good c s → length (take (to - from) (drop from bytes)) ≤ 8
    unfolding setting_is
    event_high g = omega (arith, own_length from to s.size bytes l h, event_size s.kind s.size g.fits.sized k)

    pub reads_event : {x : ℕ} → x ≡ value_of own → {r : Option ℕ} → Decides (setting_is c s) i (wanted_of (Event x) []) r → {f : Bool} → is_some r ≡ not f → ReadsAs (setting_is c s) i bytes own (Ok (reading.Event x f))
    unfolding wanted_of reading_of value_in setting_is
    reads_event e d n = reads bytes own _ _ (rw (k, e)) d n refl

  pub event_anywhere : (x : ℕ) (f : Bool) → ReadAt from bytes (Ok (reading.Event x f))
  unfolding ReadAt
  event_anywhere x f = tt

  -- ── strings ──

  module _ (k : s.kind ≡ 4) (z : Option ℕ) (e : zero_at z ≡ zero_from 0 own) where
    is_text_law : value_in (setting_is c s) own ≡ text_in own
    unfolding value_in setting_is
    is_text_law = rw k

    pub no_text : z ≡ None → ReadsAs (setting_is c s) i bytes own (Err (refusal 28 0))
    unfolding text_in zero_at reading_of
    no_text q = reads_not bytes own _ (is_text_law ∙ rw (sym e ∙ ap zero_at q)) refl

    module _ (h : to ≤ length bytes) {n : ℕ} (q : z ≡ Some n) where
      short : n < to - from
      unfolding zero_at
      short = let x = first_zero 0 own n (sym e ∙ ap zero_at q) in omega (arith, x, length-take (to - from) (drop from bytes))

      pub zero_inside : from + n ≤ length bytes
      zero_inside = let x = short in omega arith

      front : take n own ≡ take (from + n - from) (drop from bytes)
      front =
          let m : from + n - from ≡ n = omega arith in
          take-take n (to - from) (drop from bytes) (omega (arith, short)) ∙ ap (λ x. take x (drop from bytes)) (sym m)

      text_is : {u : Bool} → u ≡ is_utf8 (take (from + n - from) (drop from bytes)) → value_in (setting_is c s) own ≡ cond u (accepted (string (take (from + n - from) (drop from bytes)))) (refused (fault 28 0))
      unfolding text_in zero_at
      text_is f = is_text_law ∙ rw (sym e ∙ ap zero_at q, front, sym f)

      module _ {u : Bool} (f : u ≡ is_utf8 (take (from + n - from) (drop from bytes))) where
        pub not_text : u ≡ false → ReadsAs (setting_is c s) i bytes own (Err (refusal 28 0))
        unfolding reading_of
        not_text w = reads_not bytes own _ (text_is f ∙ rw w) refl

        pub reads_text : u ≡ true → {r : Option ℕ} → Decides (setting_is c s) i (wanted_of Text (take (from + n - from) (drop from bytes))) r → {g : Bool} → is_some r ≡ not g → ReadsAs (setting_is c s) i bytes own (Ok (reading.Text from (from + n) g))
        unfolding wanted_of reading_of
        reads_text w x y = reads bytes own _ _ (text_is f ∙ rw w) x y refl

        pub text_at : (g : Bool) → ReadAt from bytes (Ok (reading.Text from (from + n) g))
        unfolding ReadAt
        text_at g = (refl, omega arith, zero_inside)

pub ruleset reading_integer = (int_low, int_high, reads_integer, integer_plain, good_inside, rules)

pub ruleset reading_event = (event_high, reads_event, event_anywhere, good_inside, rules)

pub ruleset reading_text = (no_text, zero_inside, not_text, reads_text, text_at, refused_anywhere, good_inside, rules)

-- ── the kinds that are left ──

pub is_event : (c : List ℕ) (s : Setting) → Good c s → (s.kind ≡ 3 → ⊥) → (s.kind ≡ 4 → ⊥) → (s.kind ≡ 6 → ⊥) → s.kind ≡ 5
unfolding setting_is size_fits
is_event c s g a b d = by (eqb s.kind 5) refl
  where
    two : s.kind ≡ 2 → ⊥
    two e = let l = g.fits.kinds in omega arith

    by : (x : Bool) → eqb s.kind 5 ≡ x → s.kind ≡ 5
    by true e = eqb-true _ _ e
    by false e = let z = rw (ne_eqb _ _ two, ne_eqb _ _ a, ne_eqb _ _ b, e, ne_eqb _ _ d) at g.fits.sized in impossible (cc)

pub ruleset reading_value = (is_event, rules)

-- ── the whole answer ──

module _ (c : List ℕ) (s : Setting) (space first : ℕ) (bytes : List ℕ) {i : Bool} (ei : i ≡ inside_by s space first (length bytes)) {r : Option ℕ} (er : r ≡ read_cause s i) where
  abbrev w : Window
  w = window_of space first bytes

  cause_is : cause_of r ≡ first_cause (read_causes w (setting_is c s))
  cause_is = ap cause_of er ∙ read_decides c s w (ei ∙ inside_is c s space first bytes)

  pub not_fetched : {n : ℕ} → r ≡ Some n → reading_of bytes (Err (refusal n 0)) ≡ read_from w (setting_is c s)
  unfolding reading_of read_from cause_of
  not_fetched {n} h =
      let z : first_cause (read_causes w (setting_is c s)) ≡ refused (fault n 0) = sym cause_is ∙ rw h in
      sym (rw z)

  module _ (h : r ≡ None) where
    nothing_against : first_of (eqb s.kind 6) false false false false (not i) ≡ None
    unfolding read_cause
    nothing_against = sym er ∙ h

    passed_both : (x y : Bool) → first_of x false false false false (not y) ≡ None → (x ≡ false) × (y ≡ true)
    unfolding first_of
    passed_both true y e = impossible (cc)
    passed_both false true e = (refl, refl)
    passed_both false false e = impossible (cc)

    no_cause : first_cause (read_causes w (setting_is c s)) ≡ accepted tt
    unfolding cause_of
    no_cause = sym cause_is ∙ rw h

    in_window : Lies w (setting_is c s).variable
    in_window = lies w (setting_is c s).variable (sym (inside_is c s space first bytes) ∙ sym ei ∙ (passed_both (eqb s.kind 6) i nothing_against).1)

    pub fetch_kind : s.kind ≡ 6 → ⊥
    fetch_kind e = eqb-false s.kind 6 (passed_both (eqb s.kind 6) i nothing_against).0 e

    pub fetch_low : first ≤ s.address
    unfolding setting_is
    fetch_low = in_window.low

    pub fetch_high : s.address - first + s.size ≤ length bytes
    unfolding setting_is
    fetch_high = let a = in_window.low in let b = in_window.high in omega arith

    pub fetched : (q : Result Reading Refusal) → ReadsAs (setting_is c s) i bytes (take (s.address - first + s.size - (s.address - first)) (drop (s.address - first) bytes)) q → reading_of bytes q ≡ read_from w (setting_is c s)
    unfolding read_from as_read own_bytes start_in setting_is cause_of
    fetched q x =
        let l : s.address - first + s.size - (s.address - first) ≡ s.size = omega arith in
        x.of w (ei ∙ inside_is c s space first bytes) ∙ ap (λ m. as_read w (setting_is c s) (value_in (setting_is c s) (take m (drop (s.address - first) bytes)))) l ∙ sym (rw no_cause)

pub ruleset fetching = (not_fetched, fetch_kind, fetch_low, fetch_high, fetched, refused_anywhere, rules)
