-- What every call keeps, from an opened session on: the journal's room begins with the entries of the edits that stand, one behind the other, and the window is what
-- these edits alone give.
use mathlib.Core.Path.{◌≡◌, refl, sym, ap, ◌∙◌}
use mathlib.Core.List.{List, [], ◌∷◌, ◌++◌, append_assoc, map, reverse, reverse-cons}
use Prim.Native.Nat.{ℕ, suc, ◌+◌, ◌-◌, ◌<◌, ◌≤◌}
use native.Mathlib.Omega.{arith}
use borrow.Author.Tests.{lt-ltb, le-leb}
use lib.IntN.{ℤ}
use lib.ListN.{length, take, drop, length-append, length-take}
use Rattle.cdi.specs.Faults.{Answer, accepted, refused}
use Rattle.cdi.specs.Access.{Window, setting_of, overwritten}
use Rattle.cdi.proofs.Tests.{both}
use Rattle.undo_model.specs.Journal.{entry_bytes, room, beginning}
use Rattle.undo_model.specs.Sessions.{State, opened, entry_of, with_edit, can_stand, edited, undone, after, Edit, Call, edit, undo, called, after_all, standing, remaining, wrote, applied}
use Rattle.undo_laws.proofs.Entries.{length_entry, next_beginning, room_exactly, room_overwritten}
use Rattle.undo_laws.proofs.Taking.{Accepted, nothing_standing, own, own_fits, taken_back_law}
use Rattle.undo_laws.proofs.Edits.{Edited, accepted_edit, edit_accepted, edit_accepts, journal_is, journal_all}

-- the entry that an edit left
unfoldable pub entry_for : List ℕ → List ℤ → Edit → Window → List ℕ
entry_for b t e u = elim (setting_of b t e.number) [ refused f ↦ [] | accepted g ↦ entry_bytes (entry_of e.number u g.variable) ]

its_entry : {b : List ℕ} {t : List ℤ} {e : Edit} {u : Window} (a : Accepted b t e u) → entry_for b t e u ≡ entry_bytes (own a)
unfolding entry_for
its_entry a = rw (a.found, entry_for)

pub same_room : (x y : List ℕ) → length x ≡ length y → length (room x) ≡ length (room y)
unfolding room
same_room x y e = rw (length-take 65536 x, length-take 65536 y, e)

module _ (b : List ℕ) (t : List ℤ) (w : Window) where
  -- ── all that stand ──

  -- each was accepted in the window that the earlier ones give
  unfoldable pub AllAccepted : List Edit → Type 0
  AllAccepted [] = Unit
  AllAccepted (e ∷ es) = Accepted b t e (applied b t w es) × AllAccepted es

  unfoldable pub entries : List Edit → List ℕ
  entries [] = []
  entries (e ∷ es) = entries es ++ entry_for b t e (applied b t w es)

  -- where the walk comes to behind them
  walked : (es : List Edit) (rest : List ℕ) → AllAccepted es → beginning (entries es ++ rest) (length es) ≡ length (entries es)
  unfolding AllAccepted entries beginning
  walked [] rest h = refl
  walked (e ∷ es) rest h =
      let a = h.0 in
      let x = entry_bytes (own a) in
      ap (λ y. beginning ((entries es ++ y) ++ rest) (suc (length es))) (its_entry a)
      ∙ ap (λ y. beginning y (suc (length es))) (append_assoc (entries es) x rest)
      ∙ next_beginning (entries es) (own a) rest (length es) (own_fits a) (walked es (x ++ rest) h.1)
      ∙ ap (λ y. length (entries es ++ y)) (sym (its_entry a))

  -- what holds of the state after any calls, es being the edits that stand
  pub record Kept (es : List Edit) (s : State) : Type 0 where
    pub few : length es ≤ 64
    pub counted : s.session ≡ length es
    pub gives : s.window ≡ applied b t w es
    pub good : AllAccepted es
    pub rest : List ℕ
    pub begins : room s.journal ≡ entries es ++ rest

  -- where the next entry will begin
  pub next_at : {es : List Edit} {s : State} (k : Kept es s) → beginning (room s.journal) s.session ≡ length (entries es)
  next_at {es} {s} k = ap (beginning (room s.journal)) k.counted ∙ ap (λ r. beginning r (length es)) k.begins ∙ walked es k.rest k.good

  -- ── an accepted edit goes on top ──

  module _ (e : Edit) (es : List Edit) (s a : State) (k : Kept es s) (h : Edited b t e s a) where
    new_top : Accepted b t e (applied b t w es)
    new_top = edit_accepted h (applied b t w es) k.gives

    new : List ℕ
    new = entry_bytes (own new_top)

    fits_in : length (entries es) + length new ≤ length (room s.journal)
    unfolding new new_top edit_accepted entry_of
    fits_in = omega (arith, h.fits, next_at k, length_entry (own new_top) (own_fits new_top))

    behind : List ℕ
    behind = take (65536 - length (entries es ++ new)) (drop (length (entries es) + length new) s.journal)

    new_room : room a.journal ≡ entries (e ∷ es) ++ behind
    unfolding entries new new_top edit_accepted behind
    new_room =
        ap room (journal_is h)
        ∙ ap (λ i. room (overwritten i (entry_bytes (entry_of e.number s.window h.setting.variable)) s.journal)) (next_at k)
        ∙ ap (λ u. room (overwritten (length (entries es)) (entry_bytes (entry_of e.number u h.setting.variable)) s.journal)) k.gives
        ∙ room_overwritten (entries es) new k.rest s.journal k.begins fits_in
        ∙ ap (λ y. (entries es ++ y) ++ behind) (sym (its_entry new_top))

    on_top : Kept (e ∷ es) a
    unfolding with_edit applied AllAccepted
    on_top = record {
      few = omega (arith, h.few, k.counted);
      counted = sym (ap (λ x. x.session) h.leaves) ∙ omega (arith, k.counted);
      gives = sym (ap (λ x. x.window) h.leaves) ∙ ap (λ u. wrote b t u e) k.gives;
      good = (new_top, k.good);
      rest = behind;
      begins = new_room;
    }

  -- ── an undo takes the top off ──

  module _ (e : Edit) (es : List Edit) (s : State) (k : Kept (e ∷ es) s) where
    top : Accepted b t e (applied b t w es)
    unfolding AllAccepted
    top = k.good.0

    others : AllAccepted es
    unfolding AllAccepted
    others = k.good.1

    room_is : room s.journal ≡ entries es ++ (entry_bytes (own top) ++ k.rest)
    unfolding entries
    room_is =
        k.begins
        ∙ ap (λ y. (entries es ++ y) ++ k.rest) (its_entry top)
        ∙ append_assoc (entries es) (entry_bytes (own top)) k.rest

    unfoldable pub under : State
    under = record { session = length es; window = applied b t w es; journal = s.journal }

    pub undo_accepted : undone b t s ≡ accepted under
    unfolding applied under
    undo_accepted = taken_back_law top s (length es) (entries es) k.rest k.counted k.gives room_is (walked es (entry_bytes (own top) ++ k.rest) others)

    off_top : Kept es under
    unfolding under
    off_top = record {
      few = omega (arith, k.few);
      counted = refl;
      gives = refl;
      good = others;
      rest = entry_bytes (own top) ++ k.rest;
      begins = room_is;
    }

  -- ── any calls ──

  undo_kept : (es : List Edit) (s : State) → Kept es s → Kept (standing es undo (undone b t s)) (after s (undone b t s))
  unfolding standing after
  undo_kept [] s k = by (undone b t s) refl
    where
      by : (a : Answer State) → undone b t s ≡ a → Kept (standing [] undo a) (after s a)
      by (refused f) q = k
      by (accepted a) q = absurd (nothing_standing b t s a k.counted q)
  undo_kept (e ∷ es) s k = rw (undo_accepted e es s k) (off_top e es s k)

  call_kept : (c : Call) (es : List Edit) (s : State) → Kept es s → Kept (standing es c (called b t s c)) (after s (called b t s c))
  unfolding called standing after
  call_kept undo es s k = undo_kept es s k
  call_kept (edit e) es s k = by (edited b t e s) refl
    where
      by : (a : Answer State) → edited b t e s ≡ a → Kept (standing es (edit e) a) (after s a)
      by (refused f) q = k
      by (accepted a) q = on_top e es s a k (accepted_edit b t e s a q)

  all_kept : (cs : List Call) (es : List Edit) (s : State) → Kept es s → Kept (remaining b t es s cs) (after_all b t s cs)
  unfolding remaining after_all
  all_kept [] es s k = k
  all_kept (c ∷ cs) es s k = all_kept cs _ _ (call_kept c es s k)

  -- from an opened session on, whatever the journal holds
  fresh : (j : List ℕ) → Kept [] (opened w j)
  unfolding opened applied AllAccepted entries
  fresh j = record { few = omega arith; counted = refl; gives = refl; good = tt; rest = room j; begins = refl }

  pub kept : (j : List ℕ) (cs : List Call) → Kept (remaining b t [] (opened w j) cs) (after_all b t (opened w j) cs)
  kept j cs = all_kept cs [] (opened w j) (fresh j)

  -- ── the remaining edits alone, in a session of their own ──

  after_last : (s : State) (cs : List Call) (c : Call) → after_all b t s (cs ++ (c ∷ [])) ≡ after (after_all b t s cs) (called b t (after_all b t s cs) c)
  unfolding after_all
  after_last s [] c = refl
  after_last s (d ∷ cs) c = after_last (after s (called b t s d)) cs c

  map_last : (es : List Edit) (e : Edit) → map edit (es ++ (e ∷ [])) ≡ map edit es ++ (edit e ∷ [])
  map_last [] e = refl
  map_last (d ∷ es) e = ap (λ cs. edit d ∷ cs) (map_last es e)

  -- an edit that writing accepts is accepted where its entry finds room
  kept_again : (e : Edit) (es : List Edit) (s : State) → Kept es s → Accepted b t e (applied b t w es) → length (e ∷ es) ≤ 64
      → length (entries (e ∷ es)) ≤ length (room s.journal) → Kept (e ∷ es) (after s (called b t s (edit e)))
  unfolding called after can_stand entries entry_of
  kept_again e es s k a few l =
      let n = ap length (its_entry a) ∙ length_entry (own a) (own_fits a) in
      let r : beginning (room s.journal) s.session + 8 + a.setting.variable.size ≤ length (room s.journal) =
      omega (arith, next_at k, n, length-append (entries es) (entry_for b t e (applied b t w es))) in
      let f : s.session < 64 = omega (arith, k.counted) in
      let c = both (lt-ltb s.session 64 f) (room_exactly (room s.journal) s.session a.setting.variable.size ∙ le-leb _ _ r) in
      let q = edit_accepts b t e s a.setting (rw (← k.gives) at a.stored) a.found c in
      rw q (on_top e es s (with_edit b t e s a.setting.variable) k (accepted_edit b t e s _ q))

  -- what the edits alone leave, the earliest first
  unfoldable pub again : List ℕ → List Edit → State
  again j es = after_all b t (opened w j) (map edit (reverse es))

  again_last : (j : List ℕ) (e : Edit) (es : List Edit) → again j (e ∷ es) ≡ after (again j es) (called b t (again j es) (edit e))
  unfolding again
  again_last j e es =
      ap (λ x. after_all b t (opened w j) (map edit x)) (reverse-cons e es)
      ∙ ap (after_all b t (opened w j)) (map_last (reverse es) e)
      ∙ after_last (opened w j) (map edit (reverse es)) (edit e)

  again_room : (j : List ℕ) (es : List Edit) → length (room (again j es).journal) ≡ length (room j)
  unfolding again opened
  again_room j es = same_room (again j es).journal j (journal_all b t (map edit (reverse es)) (opened w j))

  again_fresh : (j : List ℕ) → Kept [] (again j [])
  unfolding again after_all
  again_fresh j = fresh j

  again_more : (j : List ℕ) (e : Edit) (es : List Edit) → Kept es (again j es) → Accepted b t e (applied b t w es) → length (e ∷ es) ≤ 64
      → length (entries (e ∷ es)) ≤ length (room j) → Kept (e ∷ es) (again j (e ∷ es))
  again_more j e es k a few l = rw (again_last j e es) (kept_again e es (again j es) k a few (omega (arith, again_room j es)))

  fewer : (j : List ℕ) (e : Edit) (es : List Edit) → length (entries (e ∷ es)) ≤ length (room j) → length (entries es) ≤ length (room j)
  unfolding entries
  fewer j e es l = omega (arith, length-append (entries es) (entry_for b t e (applied b t w es)))

  pub kept_alone : (j : List ℕ) (es : List Edit) → AllAccepted es → length es ≤ 64 → length (entries es) ≤ length (room j) → Kept es (again j es)
  unfolding AllAccepted
  kept_alone j [] h few l = again_fresh j
  kept_alone j (e ∷ es) h few l = again_more j e es (kept_alone j es h.1 (omega arith) (fewer j e es l)) h.0 few l
