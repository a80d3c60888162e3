-- What one call leaves, for any session value and any bytes as journal.
use mathlib.Core.Path.{◌≡◌, refl, sym, ap, ◌∙◌}
use mathlib.Core.List.{List, [], ◌∷◌, ◌++◌, append_assoc}
use mathlib.Core.Bool.{Bool, true, false, cond, ◌&&◌}
use Prim.Native.Nat.{ℕ, suc, ◌+◌, ◌-◌, ◌<◌, ◌≤◌}
use native.Mathlib.Omega.{arith}
use borrow.Author.Tests.{leb-true, ltb-true, eqb-true, eqb-false, ne_eqb}
use lib.Dec.{eqb, leb, ltb}
use lib.IntN.{ℤ}
use lib.ListN.{length, take, drop, get_or, length-take, length-drop, take-append-drop}
use lib.Seq.{length-take-le}
use Rattle.cdi.specs.Faults.{Fault, fault, Answer, accepted, refused, ◌and_then◌}
use Rattle.cdi.specs.Walk.{Found}
use Rattle.cdi.specs.Plans.{variable_of}
use Rattle.cdi.specs.Planning.{Description, described}
use Rattle.cdi.specs.Access.{Window, Value, Setting, exact, setting_of, is_inside, start_in, overwritten, written}
use Rattle.cdi.proofs.Quiet.{impossible, through, test_passed}
use Rattle.cdi.proofs.Tests.{parts}
use Rattle.cdi.proofs.Back.{lies, length_overwritten, own_overwritten, before_overwritten, behind_overwritten}
use Rattle.undo_model.specs.Journal.{entry_bytes, room, entry_at, beginning, lie, has_room}
use Rattle.undo_model.specs.Sessions.{State, holding, entry_of, with_edit, can_stand, edited, latest, without_edit, can_undo, taken_back, undone_in, undone, after, Edit, Call, edit, undo, called, after_all}
use Rattle.undo_laws.proofs.Entries.{length_entry, last_lies, room_exactly, same_walk, room_overwritten}
use Rattle.undo_laws.proofs.Taking.{Accepted, own, own_fits, taken_back_law}

-- "A refusal leaves session, window and journal unchanged."
pub refused_unchanged : (b : List ℕ) (t : List ℤ) (s : State) (c : Call) (f : Fault) → called b t s c ≡ refused f → after s (called b t s c) ≡ s
unfolding after
refused_unchanged b t s c f q = rw q

-- what an accepted edit has passed and what it leaves
pub record Edited (b : List ℕ) (t : List ℤ) (e : Edit) (s a : State) : Type 0 where
  pub setting : Setting
  pub found : setting_of b t e.number ≡ accepted setting
  pub stored : written b t e.number s.window e.value ≡ accepted tt
  pub few : s.session < 64
  pub fits : beginning (room s.journal) s.session + 8 + setting.variable.size ≤ length (room s.journal)
  pub leaves : with_edit b t e s setting.variable ≡ a

pub accepted_edit : (b : List ℕ) (t : List ℤ) (e : Edit) (s a : State) → edited b t e s ≡ accepted a → Edited b t e s a
unfolding edited can_stand has_room
accepted_edit b t e s a q =
    through (written b t e.number s.window e.value) _ a q λ u p q₁.
    through (setting_of b t e.number) _ a q₁ λ g found q₂.
    let r = room s.journal in
    let h = test_passed (can_stand s g.variable) (fault 30 0) (with_edit b t e s g.variable) a q₂ in
    let x = parts (ltb s.session 64) (has_room r s.session g.variable.size) h.0 in
    let y = parts (lie r s.session) (leb (beginning r s.session + 8 + g.variable.size) (length r)) x.1 in
    record { setting = g; found = found; stored = p; few = ltb-true _ _ x.0; fits = leb-true _ _ y.1; leaves = h.1 }

pub edit_accepts : (b : List ℕ) (t : List ℤ) (e : Edit) (s : State) (g : Setting) → written b t e.number s.window e.value ≡ accepted tt
    → setting_of b t e.number ≡ accepted g → can_stand s g.variable ≡ true → edited b t e s ≡ accepted (with_edit b t e s g.variable)
unfolding edited
edit_accepts b t e s g p q c = rw (p, q, c)

module _ {b : List ℕ} {t : List ℤ} {e : Edit} {s a : State} (h : Edited b t e s a) where
  -- writing accepts it in this window, and so in any that is the same
  unfoldable pub edit_accepted : (u : Window) → s.window ≡ u → Accepted b t e u
  unfolding room
  edit_accepted u q = record { setting = h.setting; found = h.found; stored = rw q at h.stored; short = omega (arith, h.fits, length-take 65536 s.journal) }

  abbrev here : Accepted b t e s.window
  here = edit_accepted s.window refl

  abbrev at : ℕ
  at = beginning (room s.journal) s.session

  abbrev new : List ℕ
  new = entry_bytes (entry_of e.number s.window h.setting.variable)

  pub length_new : length new ≡ 8 + h.setting.variable.size
  unfolding edit_accepted entry_of
  length_new = length_entry (own here) (own_fits here)

  in_journal : at + length new ≤ length s.journal
  unfolding room
  in_journal = omega (arith, h.fits, length_new, length-take 65536 s.journal)

  pub journal_is : a.journal ≡ overwritten at new s.journal
  unfolding with_edit
  journal_is = sym (ap (λ x. x.journal) h.leaves)

  -- ── every byte of the journal outside its entry is as it was ──

  pub journal_length : length a.journal ≡ length s.journal
  journal_length = ap length journal_is ∙ length_overwritten at new s.journal in_journal

  pub journal_before : (i d : ℕ) → i < at → get_or a.journal i d ≡ get_or s.journal i d
  journal_before i d l = ap (λ x. get_or x i d) journal_is ∙ before_overwritten at new s.journal in_journal i d l

  pub journal_behind : (i d : ℕ) → at + 8 + h.setting.variable.size ≤ i → get_or a.journal i d ≡ get_or s.journal i d
  journal_behind i d l = ap (λ x. get_or x i d) journal_is ∙ behind_overwritten at new s.journal in_journal i d (omega (arith, length_new))

  -- also from byte 65,536 on
  pub journal_beyond : (i d : ℕ) → 65536 ≤ i → get_or a.journal i d ≡ get_or s.journal i d
  unfolding room
  journal_beyond i d l = journal_behind i d (omega (arith, h.fits, length-take 65536 s.journal))

  -- ── undo straight after it ──

  front : List ℕ
  front = take at (room s.journal)

  length_front : length front ≡ at
  unfolding front
  length_front = length-take-le at (room s.journal) (omega (arith, h.fits))

  behind : List ℕ
  behind = take (65536 - length (front ++ new)) (drop (length front + length new) s.journal)

  split : room s.journal ≡ front ++ drop at (room s.journal)
  unfolding front
  split = sym (take-append-drop at (room s.journal))

  room_is : room a.journal ≡ front ++ (new ++ behind)
  unfolding behind
  room_is =
      ap room journal_is
      ∙ ap (λ k. room (overwritten k new s.journal)) (sym length_front)
      ∙ room_overwritten front new (drop at (room s.journal)) s.journal split (omega (arith, h.fits, length_new, length_front))
      ∙ append_assoc front new behind

  walked : beginning (front ++ (new ++ behind)) s.session ≡ length front
  walked =
      let e : beginning (front ++ drop at (room s.journal)) s.session ≡ length front = ap (λ r. beginning r s.session) (sym split) ∙ sym length_front in
      same_walk front (drop at (room s.journal)) (new ++ behind) s.session (omega arith) ∙ e

  -- it is accepted, and gives back the window and the session value
  pub undo_straight_after : undone b t a ≡ accepted (record { session = s.session; window = s.window; journal = a.journal })
  unfolding edit_accepted with_edit
  undo_straight_after =
      taken_back_law here a s.session front behind (sym (ap (λ x. x.session) h.leaves) ∙ omega arith) (sym (ap (λ x. x.window) h.leaves)) room_is walked

-- ── an accepted undo ──

positive : (n : ℕ) → (n ≡ 0 → ⊥) → n ≡ suc (n - 1)
positive n h = omega arith

-- what it has passed and what it leaves
pub record Undone (b : List ℕ) (t : List ℤ) (s a : State) : Type 0 where
  pub description : Description
  pub variable : Found
  pub exactly : (described b and_then exact t) ≡ accepted description
  pub stands : eqb s.session 0 ≡ false
  pub found : variable_of description.segments (latest s).number ≡ accepted variable
  pub can : can_undo s variable ≡ true
  pub leaves : without_edit s variable ≡ a

pub accepted_undo : (b : List ℕ) (t : List ℤ) (s a : State) → undone b t s ≡ accepted a → Undone b t s a
unfolding undone undone_in taken_back
accepted_undo b t s a q =
    through (described b and_then exact t) (undone_in s) a q λ d p r.
    by d p (eqb s.session 0) refl (variable_of d.segments (latest s).number) refl r
  where
    by : (d : Description) → (described b and_then exact t) ≡ accepted d → (z : Bool) → eqb s.session 0 ≡ z → (x : Answer Found) → variable_of d.segments (latest s).number ≡ x
        → cond z (refused (fault 31 0)) (taken_back s x) ≡ accepted a → Undone b t s a
    by d p true z x f r = impossible (cc)
    by d p false z (refused g) f r = impossible (cc)
    by d p false z (accepted x) f r =
        let h = test_passed (can_undo s x) (fault 35 0) (without_edit s x) a r in
        record { description = d; variable = x; exactly = p; stands = z; found = f; can = h.0; leaves = h.1 }

module _ {b : List ℕ} {t : List ℤ} {s a : State} (h : Undone b t s a) where
  -- the journal is as it was, and one edit less stands
  pub undo_journal : a.journal ≡ s.journal
  unfolding without_edit
  undo_journal = sym (ap (λ x. x.journal) h.leaves)

  pub undo_session : a.session ≡ s.session - 1
  unfolding without_edit
  undo_session = sym (ap (λ x. x.session) h.leaves)

  -- its entry lies in the room, so it has as many old bytes as the variable has
  ends : beginning (room s.journal) (s.session - 1) + 8 + (latest s).size ≤ length (room s.journal)
  unfolding can_undo latest entry_at beginning
  ends =
      let r = room s.journal in
      let one_more : s.session ≡ suc (s.session - 1) = positive s.session (eqb-false _ _ h.stands) in
      last_lies r (suc (s.session - 1)) (ap (lie r) (sym one_more) ∙ (parts (lie r s.session) _ h.can).0)

  inside : is_inside s.window h.variable ≡ true
  unfolding can_undo
  inside = (parts (eqb h.variable.size (latest s).size) _ (parts (lie (room s.journal) s.session) _ h.can).1).1

  sized : h.variable.size ≡ (latest s).size
  unfolding can_undo
  sized = eqb-true _ _ (parts (eqb h.variable.size (latest s).size) _ (parts (lie (room s.journal) s.session) _ h.can).1).0

  pub length_old : length (latest s).old ≡ h.variable.size
  unfolding latest entry_at
  length_old =
      let r = room s.journal in
      let k = beginning r (s.session - 1) in
      simp (length-take, length-drop) (omega (arith, ends, sized))

  in_window : start_in s.window h.variable + length (latest s).old ≤ length s.window.bytes
  unfolding start_in
  in_window = let l = lies s.window h.variable inside in omega (arith, length_old, l.low, l.high)

  window_is : a.window.bytes ≡ overwritten (start_in s.window h.variable) (latest s).old s.window.bytes
  unfolding without_edit holding
  window_is = sym (ap (λ x. x.window.bytes) h.leaves)

  -- the variable's bytes are the entry's old bytes, and every byte of the window outside the variable is as it was
  pub undo_length : length a.window.bytes ≡ length s.window.bytes
  undo_length = ap length window_is ∙ length_overwritten _ (latest s).old s.window.bytes in_window

  pub undo_stores : take h.variable.size (drop (start_in s.window h.variable) a.window.bytes) ≡ (latest s).old
  undo_stores =
      let start = start_in s.window h.variable in
      ap (λ x. take h.variable.size (drop start x)) window_is
      ∙ ap (λ k. take k (drop start (overwritten start (latest s).old s.window.bytes))) (sym length_old)
      ∙ own_overwritten start (latest s).old s.window.bytes in_window

  pub undo_before : (i d : ℕ) → i < start_in s.window h.variable → get_or a.window.bytes i d ≡ get_or s.window.bytes i d
  undo_before i d l = ap (λ x. get_or x i d) window_is ∙ before_overwritten _ (latest s).old s.window.bytes in_window i d l

  pub undo_behind : (i d : ℕ) → start_in s.window h.variable + h.variable.size ≤ i → get_or a.window.bytes i d ≡ get_or s.window.bytes i d
  undo_behind i d l = ap (λ x. get_or x i d) window_is ∙ behind_overwritten _ (latest s).old s.window.bytes in_window i d (omega (arith, length_old))

-- ── which refusal ──

found_first : (b : List ℕ) (t : List ℤ) (s : State) (e : Edit) (g : Fault) → setting_of b t e.number ≡ refused g
    → written b t e.number s.window e.value ≡ accepted tt → ◌≡◌ {A = ℕ} 0 1
unfolding written
found_first b t s e g p q = let z = rw p at q in cc

module _ (b : List ℕ) (t : List ℤ) (s : State) where
  -- 1 to 12 and 20 are those of writing
  pub edit_refused : (e : Edit) (f : Fault) → written b t e.number s.window e.value ≡ refused f → edited b t e s ≡ refused f
  unfolding edited
  edit_refused e f q = rw q

  pub undo_refused : (f : Fault) → (described b and_then exact t) ≡ refused f → undone b t s ≡ refused f
  unfolding undone
  undo_refused f q = rw q

  pub write_refused : (n : ℕ) (w : Window) (v : Value) (f : Fault) → (described b and_then exact t) ≡ refused f → written b t n w v ≡ refused f
  unfolding written setting_of
  write_refused n w v f q = rw q

  -- 31: no edit stands, whatever the journal holds
  pub undo_31 : (d : Description) → (described b and_then exact t) ≡ accepted d → s.session ≡ 0 → undone b t s ≡ refused (fault 31 0)
  unfolding undone undone_in
  undo_31 d q z = rw (q, z)

  -- behind these an undo knows 35 alone
  pub undo_35 : (d : Description) (f : Fault) → (described b and_then exact t) ≡ accepted d → (s.session ≡ 0 → ⊥) → undone b t s ≡ refused f → f ≡ fault 35 0
  unfolding undone undone_in taken_back
  undo_35 d f q z r = by (variable_of d.segments (latest s).number) (rw (q, ne_eqb s.session 0 z) at r)
    where
      tested : (c : Bool) (a : State) → cond c (accepted a) (refused (fault 35 0)) ≡ refused f → f ≡ fault 35 0
      tested true a r = impossible (cc)
      tested false a r = cc

      by : (x : Answer Found) → taken_back s x ≡ refused f → f ≡ fault 35 0
      by (refused g) r = cc
      by (accepted x) r = tested (can_undo s x) (without_edit s x) r

  -- and an edit that writing accepts knows 30 alone
  pub edit_30 : (e : Edit) (f : Fault) → written b t e.number s.window e.value ≡ accepted tt → edited b t e s ≡ refused f → f ≡ fault 30 0
  unfolding edited
  edit_30 e f q r = by (setting_of b t e.number) refl (rw q at r)
    where
      tested : (c : Bool) (a : State) → cond c (accepted a) (refused (fault 30 0)) ≡ refused f → f ≡ fault 30 0
      tested true a r = impossible (cc)
      tested false a r = cc

      by : (x : Answer Setting) → setting_of b t e.number ≡ x
          → (x and_then λ g. cond (can_stand s g.variable) (accepted (with_edit b t e s g.variable)) (refused (fault 30 0))) ≡ refused f → f ≡ fault 30 0
      by (refused g) p r = impossible (found_first b t s e g p q)
      by (accepted g) p r = tested (can_stand s g.variable) (with_edit b t e s g.variable) r

-- ── any calls ──

journal_call : (b : List ℕ) (t : List ℤ) (c : Call) (s : State) → length (after s (called b t s c)).journal ≡ length s.journal
unfolding called after
journal_call b t (edit e) s = by (edited b t e s) refl
  where
    by : (a : Answer State) → edited b t e s ≡ a → length (after s a).journal ≡ length s.journal
    by (refused f) q = refl
    by (accepted a) q = journal_length (accepted_edit b t e s a q)
journal_call b t undo s = by (undone b t s) refl
  where
    by : (a : Answer State) → undone b t s ≡ a → length (after s a).journal ≡ length s.journal
    by (refused f) q = refl
    by (accepted a) q = ap length (undo_journal (accepted_undo b t s a q))

-- the journal keeps its length
pub journal_all : (b : List ℕ) (t : List ℤ) (cs : List Call) (s : State) → length (after_all b t s cs).journal ≡ length s.journal
unfolding after_all
journal_all b t [] s = refl
journal_all b t (c ∷ cs) s = journal_all b t cs (after s (called b t s c)) ∙ journal_call b t c s
