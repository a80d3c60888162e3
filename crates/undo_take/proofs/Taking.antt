-- What taking an edit back answers and leaves.
use mathlib.Core.Path.{◌≡◌, refl, sym, ap, ◌∙◌}
use mathlib.Core.List.{List, ◌++◌, append-nil}
use mathlib.Core.Bool.{Bool, true, false, cond, ◌&&◌}
use Prim.Native.Nat.{ℕ, suc, ◌+◌, ◌-◌, ◌<◌, ◌≤◌}
use native.Mathlib.Omega.{arith}
use borrow.Author.Rules.{rules}
use borrow.Author.Tests.{eq-eqb, ne_eqb, not-true, not-false}
use borrow.Rule.Slice.PartMut.{put_mid, Post-is}
use lib.Dec.{eqb}
use lib.ListN.{length, take, drop, length-take, length-drop, take-append-drop}
use lib.Seq.{take-append-le, drop-append-le}
use Rattle.cdi.specs.Faults.{fault, Answer, accepted, refused}
use Rattle.cdi.specs.Values.{padded}
use Rattle.cdi.specs.Access.{is_inside, overwritten, start_in}
use Rattle.cdi.proofs.Back.{Lies, lies}
use Rattle.access_kinds.specs.Told.{no_text, setting_is, window_of, inside_by}
use Rattle.access_kinds.specs.declared.Setting.{Setting}
use Rattle.access_kinds.proofs.Deciding.{inside_is}
use Rattle.access_kinds.proofs.Owned.{own_length}
use Rattle.undo_model.specs.Journal.{room, four_at, beginning, lie, entry_at}
use Rattle.undo_model.specs.Sessions.{State, holding, latest, without_edit, can_undo, taken_back, answered, after}
use Rattle.undo_laws.proofs.Entries.{last_lies}
use Rattle.undo_edit.specs.Told.{outcome_of, state_of, window_left}
use Rattle.refusals.specs.Refusals.{refusal}
use Rattle.std.specs.Prelude.{Ok, Err}
use Rattle.undo_take.specs.Held.{Held}

module _ (s : Setting) (session space first : ℕ) (bytes j : List ℕ) (size from : ℕ) (p : 1 ≤ session) (held : Held j session size from) where
  abbrev st : State
  st = state_of session space first bytes j

  abbrev a : Answer State
  a = taken_back st (accepted (setting_is no_text s).variable)

  -- another size
  module _ (h : s.size ≡ size → ⊥) where
    other_answer : a ≡ refused (fault 35 0)
    unfolding taken_back can_undo latest entry_at setting_is
    other_answer = rw (held.lies, held.sized, ne_eqb s.size size h)

    pub other_told : outcome_of (Err (refusal 35 0)) ≡ answered a
    unfolding outcome_of answered
    other_told = sym (rw other_answer)

    pub other_window : bytes ≡ window_left st a
    unfolding after
    other_window = sym (rw other_answer)

  module _ (h : s.size ≡ size) {i : Bool} (ei : i ≡ inside_by s space first (length bytes)) where
    -- not in the window
    module _ (e : i ≡ false) where
      outside_answer : a ≡ refused (fault 35 0)
      unfolding taken_back can_undo latest entry_at setting_is
      outside_answer =
          let q : is_inside (window_of space first bytes) (setting_is no_text s).variable ≡ false = sym (inside_is no_text s space first bytes) ∙ sym ei ∙ e in
          let z : eqb (setting_is no_text s).variable.size size ≡ true = eq-eqb s.size size h in
          rw (held.lies, held.sized, z, q)

      pub outside_told : outcome_of (Err (refusal 35 0)) ≡ answered a
      unfolding outcome_of answered
      outside_told = sym (rw outside_answer)

      pub outside_window : bytes ≡ window_left st a
      unfolding after
      outside_window = sym (rw outside_answer)

    -- in the window
    module _ (e : i ≡ true) where
      inside : is_inside (window_of space first bytes) (setting_is no_text s).variable ≡ true
      inside = sym (inside_is no_text s space first bytes) ∙ sym ei ∙ e

      lying : Lies (window_of space first bytes) (setting_is no_text s).variable
      lying = lies (window_of space first bytes) (setting_is no_text s).variable inside

      pub take_low : first ≤ s.address
      unfolding setting_is
      take_low = lying.low

      pub take_high : s.address - first + size ≤ length bytes
      unfolding setting_is
      take_high = let b = lying.low in let c = lying.high in omega arith

      one_more : session ≡ suc (session - 1)
      one_more = omega arith

      entry_ends : from + size ≤ length (room j)
      unfolding beginning
      entry_ends =
          let l = last_lies (room j) (suc (session - 1)) (ap (lie (room j)) (sym one_more) ∙ held.lies) in
          omega (arith, l, held.sized, held.begins)

      pub take_room : from + size ≤ 65536
      unfolding room
      take_room = omega (arith, entry_ends, length-take 65536 j)

      pub take_journal : from + size ≤ length j
      unfolding room
      take_journal = omega (arith, entry_ends, length-take 65536 j)

      taken_answer : a ≡ accepted (without_edit st (setting_is no_text s).variable)
      unfolding taken_back can_undo latest entry_at setting_is
      taken_answer =
          let z : eqb s.size size ≡ true = eq-eqb s.size size h in
          rw (held.lies, held.sized, z, inside)

      pub taken_told : outcome_of (Ok (session - 1)) ≡ answered a
      unfolding outcome_of answered without_edit
      taken_told = sym (rw taken_answer)

      -- the old bytes, as they are lent
      abbrev old : List ℕ
      old = take (from + size - from) (drop from j)

      in_room_law : take size (drop from (room j)) ≡ old
      unfolding room
      in_room_law =
          let k : from + size - from ≡ size = omega arith in
          let l : from ≤ length (take 65536 j) = omega (arith, entry_ends) in
          rw k (
          sym (take-append-le size (drop from (take 65536 j)) (drop 65536 j) (omega (arith, entry_ends, length-drop from (take 65536 j))))
          ∙ ap (take size) (sym (drop-append-le from (take 65536 j) (drop 65536 j) l) ∙ ap (drop from) (take-append-drop 65536 j)))

      old_length : length old ≡ size
      old_length = own_length from (from + size) size j refl take_journal

      lent_length : length (take (s.address - first + size - (s.address - first)) (drop (s.address - first) bytes)) ≡ size
      lent_length = own_length (s.address - first) (s.address - first + size) size bytes refl take_high

      pub take_fits : length old ≤ length (take (s.address - first + size - (s.address - first)) (drop (s.address - first) bytes))
      take_fits = omega (arith, old_length, lent_length)

      pub taken_window : (q : List ℕ) → q ≡ padded (length (take (s.address - first + size - (s.address - first)) (drop (s.address - first) bytes))) old
          → put_mid (s.address - first) (s.address - first + size - (s.address - first)) bytes q ≡ window_left st a
      unfolding after without_edit holding overwritten start_in latest entry_at setting_is padded
      taken_window q e =
          let z : length (take (s.address - first + size - (s.address - first)) (drop (s.address - first) bytes)) - length old ≡ 0 = omega (arith, old_length, lent_length) in
          let o : q ≡ old = e ∙ rw z (append-nil old) in
          ap (λ y. take (s.address - first) bytes ++ (q ++ y)) (Post-is (s.address - first) (s.address - first + size) bytes (omega arith))
          ∙ ap (λ y. take (s.address - first) bytes ++ (y ++ drop (s.address - first + size) bytes)) o
          ∙ sym (rw (taken_answer, held.sized, held.begins, in_room_law, old_length))

pub ruleset taking = (other_told, other_window, outside_told, outside_window, take_low, take_high, take_room, take_journal, take_fits, taken_told, taken_window, not-true, not-false, rules)
