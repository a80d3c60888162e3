-- What a write that nothing speaks against does to the window.
use mathlib.Core.Path.{◌≡◌, refl, sym, ap, ◌∙◌}
use mathlib.Core.List.{List, ◌++◌}
use mathlib.Core.Bool.{Bool, true, false}
use Prim.Native.Nat.{ℕ, ◌+◌, ◌-◌, ◌*◌, ◌^◌, ◌≤◌}
use native.Mathlib.Omega.{arith}
use borrow.Author.Rules.{rules}
use borrow.Rule.Slice.PartMut.{put_mid, Post-is}
use lib.IntN.{pos, neg_ℤ}
use lib.ListN.{length, take, drop, length-append, length-replicate}
use Rattle.cdi.specs.Faults.{fault, accepted, refused, is_accepted}
use Rattle.cdi.specs.Rules.{bounds_of, storable, smallest, largest}
use Rattle.cdi.specs.Values.{with_sign, bytes_of, complement, padded}
use Rattle.cdi.specs.Access.{Window, kind_of_value, in_bounds, first_cause, write_causes, stored, overwritten, start_in, write_into}
use Rattle.cdi.proofs.Tests.{ends}
use Rattle.cdi.proofs.Bytes.{length_bytes, eight_bits, halves}
use Rattle.cdi.proofs.Signs.{up, down, up_negative, down_negative, le_up}
use Rattle.cdi.proofs.Back.{Passed, passed, Lies, lies, good_text, storable_between}
use Rattle.terms.specs.Wholes.{whole_of}
use Rattle.maps.specs.Matches.{wanted_of}
use Rattle.maps.specs.declared.Wanted.{Wanted}
use Rattle.maps.specs.declared.Wanted.TheVariants.{Number, Event, Text}
use Rattle.access_kinds.specs.Told.{setting_is, Good, window_of, inside_by, Decides}
use Rattle.access_order.specs.Told.{cause_of}
use Rattle.access_writing.specs.Told.{written_of, Room}
use Rattle.access_kinds.specs.declared.Setting.{Setting}
use Rattle.refusals.specs.Refusals.{refusal}
use Rattle.std.specs.Prelude.{Option, Some, None, Ok, Err}
use Rattle.access_kinds.proofs.Deciding.{inside_is, int_least, int_most}
use Rattle.access_kinds.proofs.Owned.{own_length}

-- ── the bytes ──

module _ {v : Wanted} (n l : ℕ) (r : Room n v l) where
  pub whole_short : {b : Bool} {m : ℕ} → v ≡ Number b m → n ≤ 8
  unfolding Room
  whole_short e = (rw e at r).0

  pub whole_fits : {b : Bool} (m : ℕ) → v ≡ Number b m → m ≤ 256 ^ n
  unfolding Room
  whole_fits m e = (rw e at r).1

  pub text_fits : v ≡ Text → l ≤ n
  unfolding Room
  text_fits e = rw e at r

module _ {v : Wanted} (n : ℕ) (t : List ℕ) {p : List ℕ} where
  pub puts_whole : {b : Bool} {m : ℕ} → v ≡ Number b m → p ≡ bytes_of n (complement n (whole_of (record { negative = b; magnitude = m }))) → p ≡ stored n (wanted_of v t)
  unfolding whole_of stored wanted_of
  puts_whole e q = q ∙ sym (rw e)

  pub puts_number : {x : ℕ} → v ≡ Event x → p ≡ bytes_of n x → p ≡ stored n (wanted_of v t)
  unfolding stored wanted_of
  puts_number e q = q ∙ sym (rw e)

  pub puts_text : v ≡ Text → p ≡ padded n t → p ≡ stored n (wanted_of v t)
  unfolding stored wanted_of
  puts_text e q = q ∙ sym (rw e)

pub ruleset putting = (whole_short, whole_fits, text_fits, puts_whole, puts_number, puts_text, rules)

-- as many bytes as there is room for
stored_length : (n : ℕ) (v : Wanted) (t : List ℕ) → Room n v (length t) → length (stored n (wanted_of v t)) ≡ n
unfolding stored wanted_of Room padded
stored_length n (Number b m) t r = length_bytes _ _
stored_length n (Event x) t r = length_bytes _ _
stored_length n Text t r = simp (length-append, length-replicate) (omega arith)

-- ── a number that can be stored ──

limits : (s : Bool) (n : ℕ) → 1 ≤ n → (up (largest s n) ≤ 256 ^ n) × (down (largest s n) ≡ 0) × (down (smallest s n) ≤ 256 ^ n) × (up (smallest s n) ≡ 0)
unfolding largest smallest up down
limits true n l =
    let h = halves n l in
    (omega (arith, h), refl, omega (arith, h, down_negative (2 ^ (8 * n - 1))), up_negative (2 ^ (8 * n - 1)))
limits false n l = (omega (arith, eight_bits n), refl, omega arith, refl)

storable_size : (s : Bool) (n : ℕ) (b : Bool) (m : ℕ) → 1 ≤ n → storable s n (with_sign b m) ≡ true → m ≤ 256 ^ n
unfolding storable with_sign up down
storable_size s n true m l h =
    let k = limits s n l in
    let low = le_up (smallest s n) (neg_ℤ (pos m)) (ends (smallest s n) (largest s n) (neg_ℤ (pos m)) h).0 in
    omega (arith, up_negative m, down_negative m, low, k.2, k.3)
storable_size s n false m l h =
    let k = limits s n l in
    let high = le_up (pos m) (largest s n) (ends (smallest s n) (largest s n) (pos m) h).1 in
    omega (arith, high, k.0, k.1)

-- ── the window ──

module _ (c : List ℕ) {s : Setting} (g : Good c s) (space first : ℕ) (bytes : List ℕ) (v : Wanted) (t : List ℕ)
    {i : Bool} (ei : i ≡ inside_by s space first (length bytes)) {r : Option ℕ} (x : Decides (setting_is c s) i (wanted_of v t) r) where
  abbrev w : Window
  w = window_of space first bytes

  cause_is : cause_of r ≡ first_cause (write_causes w (wanted_of v t) (setting_is c s))
  cause_is = x.of w (ei ∙ inside_is c s space first bytes)

  -- refused
  module _ {n : ℕ} (h : r ≡ Some n) where
    pub refused_is : first_cause (write_causes w (wanted_of v t) (setting_is c s)) ≡ refused (fault n 0)
    unfolding cause_of
    refused_is = sym cause_is ∙ rw h

    pub not_stored : written_of (Err (refusal n 0)) ≡ first_cause (write_causes w (wanted_of v t) (setting_is c s))
    unfolding written_of
    not_stored = sym refused_is

    pub not_changed : bytes ≡ write_into w (wanted_of v t) (setting_is c s)
    unfolding write_into is_accepted
    not_changed = sym (rw refused_is)

  -- accepted
  module _ (h : r ≡ None) where
    pub accepted_is : first_cause (write_causes w (wanted_of v t) (setting_is c s)) ≡ accepted tt
    unfolding cause_of
    accepted_is = sym cause_is ∙ rw h

    all_passed : Passed w (wanted_of v t) (setting_is c s)
    all_passed = passed w (wanted_of v t) (setting_is c s) accepted_is

    in_window : Lies w (setting_is c s).variable
    in_window = lies w (setting_is c s).variable all_passed.inside

    pub from_inside : first ≤ s.address
    unfolding setting_is
    from_inside = in_window.low

    pub to_inside : s.address - first + s.size ≤ length bytes
    unfolding setting_is
    to_inside = let a = in_window.low in let b = in_window.high in omega arith

    room_for : (u : Wanted) → v ≡ u → Room s.size u (length t)
    unfolding Room wanted_of kind_of_value in_bounds setting_is
    room_for (Number b m) e =
        let k : s.kind ≡ 3 = sym (rw e at all_passed.kind) in
        let bs = bounds_of s.size (setting_is c s).content in
        let l = int_least g k in
        let f = storable_between bs.signed s.size bs.min bs.max (with_sign b m) (g.fits.low k) (g.fits.high k) (rw e at all_passed.bounds) in
        (int_most g k, storable_size bs.signed s.size b m l f)
    room_for (Event y) e = tt
    room_for Text e = let q = (good_text (setting_is c s) t (rw e at all_passed.text)).short in omega arith

    own_size : length (take (s.address - first + s.size - (s.address - first)) (drop (s.address - first) bytes)) ≡ s.size
    own_size = own_length (s.address - first) (s.address - first + s.size) s.size bytes refl to_inside

    pub has_room_law : Room (length (take (s.address - first + s.size - (s.address - first)) (drop (s.address - first) bytes))) v (length t)
    has_room_law = rw own_size (room_for v refl)

    pub is_stored : written_of (Ok tt) ≡ first_cause (write_causes w (wanted_of v t) (setting_is c s))
    unfolding written_of
    is_stored = sym accepted_is

    -- the window, with the part that was lent on put back
    pub is_changed : (p : List ℕ) → p ≡ stored (length (take (s.address - first + s.size - (s.address - first)) (drop (s.address - first) bytes))) (wanted_of v t)
        → put_mid (s.address - first) (s.address - first + s.size - (s.address - first)) bytes p ≡ write_into w (wanted_of v t) (setting_is c s)
    unfolding write_into is_accepted overwritten start_in setting_is
    is_changed p q =
        let n : p ≡ stored s.size (wanted_of v t) = q ∙ ap (λ k. stored k (wanted_of v t)) own_size in
        let l : length (stored s.size (wanted_of v t)) ≡ s.size = stored_length s.size v t (room_for v refl) in
        ap (λ x. take (s.address - first) bytes ++ (p ++ x)) (Post-is (s.address - first) (s.address - first + s.size) bytes (omega arith))
        ∙ ap (λ x. take (s.address - first) bytes ++ (x ++ drop (s.address - first + s.size) bytes)) n
        ∙ sym (rw (accepted_is, l))

pub ruleset storing = (not_stored, not_changed, from_inside, to_inside, has_room_law, is_stored, is_changed, rules)
