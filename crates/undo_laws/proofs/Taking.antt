-- An entry that an accepted edit left is taken back by an undo, wherever it stands in the journal's room.
use mathlib.Core.Path.{◌≡◌, sym, ap, ◌∙◌}
use mathlib.Core.List.{List, ◌++◌}
use mathlib.Core.Bool.{true}
use Prim.Native.Nat.{ℕ, suc, ◌-◌, ◌≤◌}
use native.Mathlib.Omega.{arith}
use borrow.Author.Tests.{eq-eqb, ne_eqb}
use lib.IntN.{ℤ}
use lib.ListN.{length, length-append}
use Rattle.cdi.specs.Faults.{accepted, ◌and_then◌}
use Rattle.cdi.specs.Walk.{Found}
use Rattle.cdi.specs.Plans.{variable_of}
use Rattle.cdi.specs.Planning.{Description, described}
use Rattle.cdi.specs.Access.{Window, Setting, exact, setting_of, is_inside, start_in, overwritten, written}
use Rattle.cdi.proofs.Quiet.{impossible, through}
use Rattle.cdi.proofs.Tests.{both}
use Rattle.undo_model.specs.Journal.{Entry, entry_bytes, room, entry_at, beginning, lie}
use Rattle.undo_model.specs.Sessions.{State, holding, wrote, entry_of, latest, without_edit, can_undo, taken_back, undone_in, undone, Edit}
use Rattle.undo_laws.proofs.Entries.{Fits, entry_back, next_beginning, all_lie}
use Rattle.undo_laws.proofs.Writes.{named, length_old, inside_after, window_back}

-- an edit that writing accepts in the window u, of a variable whose entry can lie in a room
pub record Accepted (b : List ℕ) (t : List ℤ) (e : Edit) (u : Window) : Type 0 where
  pub setting : Setting
  pub found : setting_of b t e.number ≡ accepted setting
  pub stored : written b t e.number u e.value ≡ accepted tt
  pub short : setting.variable.size ≤ 65536

-- no edit stands
pub nothing_standing : (b : List ℕ) (t : List ℤ) (s a : State) → s.session ≡ 0 → undone b t s ≡ accepted a → ⊥
unfolding undone undone_in
nothing_standing b t s a h q =
    through (described b and_then exact t) (undone_in s) a q λ d p r.
    let z = rw h at r in
    impossible (cc)

takes : (b : List ℕ) (t : List ℤ) (s : State) (d : Description) (x : Found) → (described b and_then exact t) ≡ accepted d → (s.session ≡ 0 → ⊥)
    → variable_of d.segments (latest s).number ≡ accepted x → can_undo s x ≡ true → undone b t s ≡ accepted (without_edit s x)
unfolding undone undone_in taken_back
takes b t s d x p h q c = rw (p, ne_eqb s.session 0 h, q, c)

module _ {b : List ℕ} {t : List ℤ} {e : Edit} {u : Window} (a : Accepted b t e u) where
  -- the entry that it left
  abbrev pub own : Entry
  own = entry_of e.number u a.setting.variable

  pub own_fits : Fits own
  unfolding entry_of
  own_fits =
      let n = (named b t e.number a.setting a.found).small in
      let l = a.short in
      record { number = omega arith; size = omega arith; old = length_old b t e.number u e.value a.setting a.found a.stored }

  abbrev variable : Found
  variable = a.setting.variable

  -- entry k stands in the room behind what is in front of it, and it is the latest
  module _ (s : State) (k : ℕ) (front rest : List ℕ) (counted : s.session ≡ suc k) (gives : s.window ≡ wrote b t u e)
      (stands : room s.journal ≡ front ++ (entry_bytes own ++ rest)) (begins : beginning (front ++ (entry_bytes own ++ rest)) k ≡ length front) where
    latest_is : latest s ≡ own
    unfolding latest
    latest_is =
        let one_less : s.session - 1 ≡ k = omega arith in
        ap (λ n. entry_at (room s.journal) (beginning (room s.journal) n)) one_less
        ∙ ap (λ r. entry_at r (beginning r k)) stands
        ∙ ap (entry_at (front ++ (entry_bytes own ++ rest))) begins
        ∙ entry_back front own rest own_fits

    all_inside : lie (room s.journal) s.session ≡ true
    all_inside =
        let r = front ++ (entry_bytes own ++ rest) in
        let l : beginning r (suc k) ≤ length r = simp length-append (omega (arith, next_beginning front own rest k own_fits begins, length-append front (entry_bytes own))) in
        ap (λ n. lie (room s.journal) n) counted ∙ ap (λ x. lie x (suc k)) stands ∙ all_lie r (suc k) l

    can_undo_law : can_undo s variable ≡ true
    unfolding can_undo entry_of wrote
    can_undo_law =
        let inside = ap (λ x. is_inside x variable) gives ∙ inside_after b t e.number u e.value a.setting a.found a.stored in
        both all_inside (both (eq-eqb _ _ (sym (ap (λ x. x.size) latest_is))) inside)

    given_back : (without_edit s variable).window ≡ u
    unfolding without_edit entry_of wrote
    given_back =
        let v = wrote b t u e in
        ap (λ x. holding x (overwritten (start_in x variable) (latest s).old x.bytes)) gives
        ∙ ap (λ y. holding v (overwritten (start_in v variable) y.old v.bytes)) latest_is
        ∙ window_back b t e.number u e.value a.setting a.found a.stored

    -- undo is accepted: the window is that before the edit, and one edit less stands
    pub taken_back_law : undone b t s ≡ accepted (record { session = k; window = u; journal = s.journal })
    unfolding without_edit entry_of
    taken_back_law =
        let n = named b t e.number a.setting a.found in
        let one_less : s.session - 1 ≡ k = omega arith in
        takes b t s n.description variable n.exactly (λ z. omega arith) (ap (λ x. variable_of n.description.segments x.number) latest_is ∙ n.found) can_undo_law
        ∙ ap (λ x. accepted (record { session = s.session - 1; window = x; journal = s.journal })) given_back
        ∙ ap (λ m. accepted (record { session = m; window = u; journal = s.journal })) one_less
