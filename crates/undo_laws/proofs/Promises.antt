-- What sessions promise, gathered for a reader.
use mathlib.Core.Path.{◌≡◌, refl, sym, ap, ◌∙◌}
use mathlib.Core.List.{List, [], ◌∷◌, ◌++◌, map, foldl, foldl-append, reverse, reverse-cons}
use mathlib.Core.Bool.{◌&&◌}
use mathlib.Core.Logic.{◌⊎◌, ⊎_elim}
use Prim.Native.Nat.{ℕ, ◌+◌, ◌-◌, ◌<◌, ◌≤◌}
use native.Mathlib.Omega.{arith}
use lib.IntN.{ℤ}
use lib.Dec.{leb, ltb}
use lib.ListN.{length, take, drop, get_or, length-append}
use Rattle.cdi.specs.Faults.{Fault, accepted, refused, ◌and_then◌}
use Rattle.cdi.specs.Walk.{Found}
use Rattle.cdi.specs.Planning.{described}
use Rattle.cdi.specs.Access.{Window, exact, start_in}
use Rattle.undo_model.specs.Journal.{room, beginning}
use Rattle.undo_model.specs.Sessions.{State, opened, can_stand, edited, latest, undone, after, Edit, Call, edit, undo, called, after_all, remaining, wrote, applied}
use Rattle.undo_laws.proofs.Entries.{room_exactly}
use Rattle.undo_laws.proofs.Edits.{Edited, accepted_edit, journal_before, journal_behind, journal_beyond, undo_straight_after, journal_all, edit_refused, undo_refused, write_refused}
use Rattle.undo_laws.proofs.Edits.{Undone, accepted_undo, undo_journal, undo_session, undo_length, undo_stores, undo_before, undo_behind}
use Rattle.undo_laws.proofs.Standing.{AllAccepted, entries, next_at, same_room, kept, again, kept_alone, under, undo_accepted}

-- ── one call, for any session value and any bytes as journal ──

-- 30: 64 edits stand, or entry s with this size would not end in the room
pub stand_exactly : (s : State) (x : Found) → can_stand s x ≡ (ltb s.session 64 && leb (beginning (room s.journal) s.session + 8 + x.size) (length (room s.journal)))
unfolding can_stand
stand_exactly s x = rw (room_exactly (room s.journal) s.session x.size)

-- a text that is refused, or another table: no call changes anything
pub nothing_accepted : (b : List ℕ) (t : List ℤ) (f : Fault) → (described b and_then exact t) ≡ refused f → (cs : List Call) (s : State) → after_all b t s cs ≡ s
unfolding after_all after called
nothing_accepted b t f q [] s = refl
nothing_accepted b t f q (undo ∷ cs) s = rw (undo_refused b t s f q) (nothing_accepted b t f q cs s)
nothing_accepted b t f q (edit e ∷ cs) s =
    rw (edit_refused b t s e f (write_refused b t s e.number s.window e.value f q)) (nothing_accepted b t f q cs s)

module _ (b : List ℕ) (t : List ℤ) (s a : State) where
  -- an accepted edit leaves every byte of the journal outside its entry as it was, and so all from 65,536 on
  module _ (e : Edit) (q : edited b t e s ≡ accepted a) where
    abbrev h : Edited b t e s a
    h = accepted_edit b t e s a q

    pub edit_keeps_others : (i d : ℕ) → (i < beginning (room s.journal) s.session) ⊎ (beginning (room s.journal) s.session + 8 + h.setting.variable.size ≤ i)
        → get_or a.journal i d ≡ get_or s.journal i d
    edit_keeps_others i d o = ⊎_elim (λ l. journal_before h i d l) (λ l. journal_behind h i d l) o

    pub edit_keeps_beyond : (i d : ℕ) → 65536 ≤ i → get_or a.journal i d ≡ get_or s.journal i d
    edit_keeps_beyond i d l = journal_beyond h i d l

  -- an accepted undo leaves the journal; the variable's bytes are the entry's old bytes, and every other byte of the window is as it was
  module _ (q : undone b t s ≡ accepted a) where
    abbrev u : Undone b t s a
    u = accepted_undo b t s a q

    abbrev start : ℕ
    start = start_in s.window u.variable

    pub undo_keeps_journal : (a.journal ≡ s.journal) × (a.session ≡ s.session - 1)
    undo_keeps_journal = (undo_journal u, undo_session u)

    pub undo_stores_old : take u.variable.size (drop start a.window.bytes) ≡ (latest s).old
    undo_stores_old = undo_stores u

    pub undo_keeps_others : (length a.window.bytes ≡ length s.window.bytes)
        × ((i d : ℕ) → (i < start) ⊎ (start + u.variable.size ≤ i) → get_or a.window.bytes i d ≡ get_or s.window.bytes i d)
    undo_keeps_others = (undo_length u, λ i d o. ⊎_elim (λ l. undo_before u i d l) (λ l. undo_behind u i d l) o)

-- ── an edit and its undo ──

-- undo straight after an accepted edit is accepted, and gives back the window and the session value
pub edit_undo : (b : List ℕ) (t : List ℤ) (e : Edit) (s a : State) → edited b t e s ≡ accepted a
    → undone b t a ≡ accepted (record { session = s.session; window = s.window; journal = a.journal })
edit_undo b t e s a q = undo_straight_after (accepted_edit b t e s a q)

-- ── any mix of edits and undos ──

-- calls in two parts are all of them in turn
pub in_parts : (b : List ℕ) (t : List ℤ) (s : State) (cs ds : List Call) → after_all b t s (cs ++ ds) ≡ after_all b t (after_all b t s cs) ds
unfolding after_all
in_parts b t s [] ds = refl
in_parts b t s (c ∷ cs) ds = in_parts b t (after s (called b t s c)) cs ds

in_order : (b : List ℕ) (t : List ℤ) (w : Window) (es : List Edit) → applied b t w es ≡ foldl (wrote b t) w (reverse es)
unfolding applied
in_order b t w [] = refl
in_order b t w (e ∷ es) =
    ap (λ u. wrote b t u e) (in_order b t w es)
    ∙ sym (foldl-append (wrote b t) w (reverse es) (e ∷ []))
    ∙ ap (foldl (wrote b t) w) (sym (reverse-cons e es))

module _ (b : List ℕ) (t : List ℤ) (w : Window) (j : List ℕ) (cs : List Call) where
  -- "After any mix of edits and undos, refused ones included, the window holds what the remaining edits alone, from the opening window, would give."
  pub window_is : (after_all b t (opened w j) cs).window ≡ applied b t w (remaining b t [] (opened w j) cs)
  window_is = (kept b t w j cs).gives

  -- that is, each written in turn, the earliest first
  pub window_in_order : (after_all b t (opened w j) cs).window ≡ foldl (wrote b t) w (reverse (remaining b t [] (opened w j) cs))
  window_in_order = window_is ∙ in_order b t w (remaining b t [] (opened w j) cs)

  -- none of them would be refused
  pub all_accepted : AllAccepted b t w (remaining b t [] (opened w j) cs)
  all_accepted = (kept b t w j cs).good

  -- "keeps up to 64 accepted edits"
  pub at_most_64 : length (remaining b t [] (opened w j) cs) ≤ 64
  at_most_64 = (kept b t w j cs).few

  -- the session value is how many edits stand
  pub session_is : (after_all b t (opened w j) cs).session ≡ length (remaining b t [] (opened w j) cs)
  session_is = (kept b t w j cs).counted

  -- "its journal room is used again": the next entry begins behind those of the remaining edits
  pub next_begins : let s = after_all b t (opened w j) cs in beginning (room s.journal) s.session ≡ length (entries b t w (remaining b t [] (opened w j) cs))
  next_begins = next_at b t w (kept b t w j cs)

  -- a session in which the remaining edits are the only calls comes to the same window
  pub alone : (after_all b t (opened w j) (map edit (reverse (remaining b t [] (opened w j) cs)))).window ≡ (after_all b t (opened w j) cs).window
  unfolding again opened
  alone =
      let es = remaining b t [] (opened w j) cs in
      let k = kept b t w j cs in
      let same = same_room (after_all b t (opened w j) cs).journal j (journal_all b t cs (opened w j)) in
      let l = ap length k.begins ∙ length-append (entries b t w es) k.rest in
      (kept_alone b t w j es k.good k.few (omega arith)).gives ∙ sym k.gives

  -- undo never finds the journal wanting: what stands is taken back
  pub undo_next : (e : Edit) (es : List Edit) → remaining b t [] (opened w j) cs ≡ e ∷ es
      → undone b t (after_all b t (opened w j) cs) ≡ accepted (record { session = length es; window = applied b t w es; journal = (after_all b t (opened w j) cs).journal })
  unfolding under
  undo_next e es q = undo_accepted b t w e es (after_all b t (opened w j) cs) (rw q at (kept b t w j cs))
