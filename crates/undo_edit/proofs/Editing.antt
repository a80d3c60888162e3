-- What an edit of a known setting answers and leaves.
use mathlib.Core.Path.{◌≡◌, refl, sym, ap, ◌∙◌}
use mathlib.Core.List.{List, ◌++◌}
use mathlib.Core.Bool.{Bool, true, false, cond, ◌&&◌}
use mathlib.Core.Option as option
use mathlib.Core.Option.{some}
use Prim.Native.Nat.{ℕ, ◌+◌, ◌-◌, ◌<◌, ◌≤◌}
use native.Mathlib.Omega.{arith}
use borrow.Author.Rules.{rules}
use borrow.Author.Tests.{ltb-true, leb-true}
use borrow.Rule.Slice.PartMut.{put_mid, Post-is}
use lib.Dec.{ltb, leb}
use lib.ListN.{length, take, drop, length-take, length-append}
use Rattle.cdi.specs.Faults.{fault, Answer, accepted, refused}
use Rattle.cdi.specs.Access.{Window, first_cause, write_causes, write_into, overwritten, own_bytes, start_in, stored}
use Rattle.cdi.proofs.Quiet.{impossible}
use Rattle.cdi.proofs.Tests.{parts}
use Rattle.cdi.proofs.Bytes.{length_bytes}
use Rattle.maps.specs.Matches.{wanted_of}
use Rattle.maps.specs.declared.Wanted.{Wanted}
use Rattle.access_kinds.specs.Told.{setting_is, Good, window_of, inside_by, Decides}
use Rattle.access_kinds.specs.declared.Setting.{Setting}
use Rattle.access_kinds.proofs.Owned.{own_length}
use Rattle.access_writing.specs.Told.{Room}
use Rattle.access_writing.proofs.Storing.{refused_is, accepted_is, from_inside, to_inside, has_room_law, is_changed}
use Rattle.undo_model.specs.Journal.{room, beginning, has_room, entry_bytes}
use Rattle.undo_model.specs.Sessions.{State, holding, entry_of, can_stand, answered, after}
use Rattle.undo_laws.proofs.Entries.{room_exactly}
use Rattle.undo_entries.specs.Begun.{begun_of, stands_in, entry_for}
use Rattle.undo_edit.specs.Told.{outcome_of, state_of, window_left, journal_left, edited_in}
use Rattle.refusals.specs.Refusals.{refusal}
use Rattle.std.specs.Prelude.{Option, Some, None, Ok, Err}

module _ (c : List ℕ) {s : Setting} (g : Good c s) (n session space first : ℕ) (bytes j : List ℕ) (v : Wanted) (t : List ℕ)
    {i : Bool} (ei : i ≡ inside_by s space first (length bytes)) {r : Option ℕ} (x : Decides (setting_is c s) i (wanted_of v t) r) where
  abbrev st : State
  st = state_of session space first bytes j

  abbrev a : Answer State
  a = edited_in (setting_is c s) n (wanted_of v t) st

  -- a cause speaks against it
  module _ {m : ℕ} (h : r ≡ Some m) where
    cause_answer : a ≡ refused (fault m 0)
    unfolding edited_in
    cause_answer = rw (refused_is c g space first bytes v t ei x h)

    pub cause_told : outcome_of (Err (refusal m 0)) ≡ answered a
    unfolding outcome_of answered
    cause_told = sym (rw cause_answer)

    pub cause_window : bytes ≡ window_left st a
    unfolding after
    cause_window = sym (rw cause_answer)

    pub cause_journal : j ≡ journal_left st a
    unfolding after
    cause_journal = sym (rw cause_answer)

  -- nothing does
  module _ (none : r ≡ None) where
    passes : first_cause (write_causes (window_of space first bytes) (wanted_of v t) (setting_is c s)) ≡ accepted tt
    passes = accepted_is c g space first bytes v t ei x none

    pub edit_low : first ≤ s.address
    edit_low = from_inside c g space first bytes v t ei x none

    pub edit_high : s.address - first + s.size ≤ length bytes
    edit_high = to_inside c g space first bytes v t ei x none

    pub edit_room : Room (length (take (s.address - first + s.size - (s.address - first)) (drop (s.address - first) bytes))) v (length t)
    edit_room = has_room_law c g space first bytes v t ei x none

    -- 30
    module _ {b : Option ℕ} (f : begun_of b ≡ stands_in (room j) session s.size) where
      module _ (e : b ≡ None) where
        cannot : can_stand st (setting_is c s).variable ≡ false
        unfolding begun_of stands_in can_stand setting_is
        cannot = by (ltb session 64 && has_room (room j) session s.size) (sym f ∙ ap begun_of e)
          where
            by : (y : Bool) → cond y (some (beginning (room j) session)) option.none ≡ option.none → y ≡ false
            by true q = impossible (cc)
            by false q = refl

        full_answer : a ≡ refused (fault 30 0)
        unfolding edited_in
        full_answer = rw (passes, cannot)

        pub full_told : outcome_of (Err (refusal 30 0)) ≡ answered a
        unfolding outcome_of answered
        full_told = sym (rw full_answer)

        pub full_window : bytes ≡ window_left st a
        unfolding after
        full_window = sym (rw full_answer)

        pub full_journal : j ≡ journal_left st a
        unfolding after
        full_journal = sym (rw full_answer)

      module _ {at : ℕ} (e : b ≡ Some at) where
        found : (ltb session 64 && has_room (room j) session s.size ≡ true) × (beginning (room j) session ≡ at)
        unfolding begun_of stands_in
        found = by (ltb session 64 && has_room (room j) session s.size) refl (sym f ∙ ap begun_of e)
          where
            by : (y : Bool) → ltb session 64 && has_room (room j) session s.size ≡ y → cond y (some (beginning (room j) session)) option.none ≡ some at → (ltb session 64 && has_room (room j) session s.size ≡ true) × (beginning (room j) session ≡ at)
            by true p q = (p, cc)
            by false p q = impossible (cc)

        can : can_stand st (setting_is c s).variable ≡ true
        unfolding can_stand setting_is
        can = found.0

        pub few : session < 64
        few = ltb-true _ _ (parts (ltb session 64) (has_room (room j) session s.size) found.0).0

        ends : at + 8 + s.size ≤ length (room j)
        ends =
            let k = (parts (ltb session 64) (has_room (room j) session s.size) found.0).1 in
            let l = leb-true (beginning (room j) session + 8 + s.size) (length (room j)) (sym (room_exactly (room j) session s.size) ∙ k) in
            omega (arith, l, found.1)

        pub in_room_law : at + 8 + s.size ≤ 65536
        unfolding room
        in_room_law = omega (arith, ends, length-take 65536 j)

        pub in_journal : at + 8 + s.size ≤ length j
        unfolding room
        in_journal = omega (arith, ends, length-take 65536 j)

        abbrev old : List ℕ
        old = take (s.address - first + s.size - (s.address - first)) (drop (s.address - first) bytes)

        old_length : length old ≡ s.size
        old_length = own_length (s.address - first) (s.address - first + s.size) s.size bytes refl edit_high

        pub entry_size : length (take (at + 8 + s.size - at) (drop at j)) ≡ 8 + length old
        entry_size = own_length at (at + 8 + s.size) (8 + s.size) j (omega arith) in_journal ∙ omega (arith, old_length)

        stands_answer : a ≡ accepted (record { session = session + 1; window = window_of space first (write_into (window_of space first bytes) (wanted_of v t) (setting_is c s)); journal = overwritten at (entry_bytes (entry_of n (window_of space first bytes) (setting_is c s).variable)) j })
        unfolding edited_in holding
        stands_answer = rw (passes, can, found.1)

        pub stands_told : outcome_of (Ok (session + 1)) ≡ answered a
        unfolding outcome_of answered
        stands_told = sym (rw stands_answer)

        pub stands_window : (p : List ℕ) → p ≡ stored (length old) (wanted_of v t) → put_mid (s.address - first) (s.address - first + s.size - (s.address - first)) bytes p ≡ window_left st a
        unfolding after
        stands_window p q = is_changed c g space first bytes v t ei x none p q ∙ sym (rw stands_answer)

        entry_same : entry_bytes (entry_for n old) ≡ entry_bytes (entry_of n (window_of space first bytes) (setting_is c s).variable)
        unfolding entry_for entry_of own_bytes start_in setting_is
        entry_same =
            let k : s.address - first + s.size - (s.address - first) ≡ s.size = omega arith in
            let l : length old ≡ s.size = old_length in
            rw (l, k)

        entry_length : length (entry_bytes (entry_for n old)) ≡ 8 + s.size
        unfolding entry_bytes entry_for
        entry_length = simp (length-append, length_bytes) (omega (arith, old_length))

        pub stands_journal : (p : List ℕ) → p ≡ entry_bytes (entry_for n old) → put_mid at (at + 8 + s.size - at) j p ≡ journal_left st a
        unfolding after overwritten
        stands_journal p q =
            let k : at + length (entry_bytes (entry_for n old)) ≡ at + 8 + s.size = omega (arith, entry_length) in
            ap (λ y. take at j ++ (p ++ y)) (Post-is at (at + 8 + s.size) j (omega arith))
            ∙ ap (λ y. take at j ++ (y ++ drop (at + 8 + s.size) j)) q
            ∙ ap (λ y. take at j ++ (entry_bytes (entry_for n old) ++ drop y j)) (sym k)
            ∙ ap (λ y. overwritten at y j) entry_same
            ∙ sym (rw stands_answer)

pub ruleset editing = (cause_told, cause_window, cause_journal, edit_low, edit_high, full_told, full_window, full_journal, few, in_room_law, in_journal, entry_size, edit_room, stands_told, stands_window, stands_journal, rules)
