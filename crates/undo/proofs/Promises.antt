-- What edits and undos promise: calls in turn, of which only the contracts are known, what each answers and what it leaves.
use mathlib.Core.Path.{◌≡◌, refl, sym, ap, ◌∙◌}
use mathlib.Core.List.{List, [], ◌∷◌}
use Prim.Native.Nat.{ℕ, ◌≤◌}
use lib.IntN.{ℤ}
use lib.ListN.{length}
use Rattle.cdi.specs.Faults.{Fault, Answer, accepted, refused}
use Rattle.cdi.specs.Access.{Window}
use Rattle.cdi.proofs.Quiet.{impossible, same_accepted}
use Rattle.access_kinds.specs.Told.{window_of}
use Rattle.undo_model.specs.Sessions.{State, opened, holding, wrote, with_edit, without_edit, edited, undone, answered, after, Edit, Call, edit, undo, called, after_all, remaining, applied}
use Rattle.undo_laws.proofs.Edits.{accepted_edit, accepted_undo}
use Rattle.undo_laws.proofs.Promises.{window_is, at_most_64, session_is, edit_undo}
use Rattle.undo_edit.specs.Told.{outcome_of, state_of, window_left, journal_left}
use Rattle.refusals.specs.declared.Refusal.{Refusal}
use Rattle.std.specs.Prelude.{Result, Ok, Err}

-- the session value after a call: a refused one leaves it
unfoldable pub session_after : ℕ → Result ℕ Refusal → ℕ
session_after before (Ok s) = s
session_after before (Err g) = before

state_is : (a : State) {n space first : ℕ} {u k : List ℕ} → n ≡ a.session → space ≡ a.window.space → first ≡ a.window.first → u ≡ a.window.bytes → k ≡ a.journal
    → state_of n space first u k ≡ a
state_is a p q r x y = rw (p, q, r, x, y)

module _ (b : List ℕ) (t : List ℤ) (space first : ℕ) where
  -- a call that met its contract: it answered r, and left these bytes as window and journal
  pub record Met (session : ℕ) (bytes j : List ℕ) (c : Call) (r : Result ℕ Refusal) (u k : List ℕ) : Type 0 where
    pub answer : outcome_of r ≡ answered (called b t (state_of session space first bytes j) c)
    pub window : u ≡ window_left (state_of session space first bytes j) (called b t (state_of session space first bytes j) c)
    pub journal : k ≡ journal_left (state_of session space first bytes j) (called b t (state_of session space first bytes j) c)

  -- the window's space and first address never change
  same_window : (s a : State) (c : Call) → called b t s c ≡ accepted a → (a.window.space ≡ s.window.space) × (a.window.first ≡ s.window.first)
  unfolding called with_edit wrote holding without_edit
  same_window s a (edit e) q = let h = sym (ap (λ (x : State). x.window) (accepted_edit b t e s a q).leaves) in (ap (λ (x : Window). x.space) h, ap (λ (x : Window). x.first) h)
  same_window s a undo q = let h = sym (ap (λ (x : State). x.window) (accepted_undo b t s a q).leaves) in (ap (λ (x : Window). x.space) h, ap (λ (x : Window). x.first) h)

  module _ {session : ℕ} {bytes j : List ℕ} {c : Call} {r : Result ℕ Refusal} {u k : List ℕ} (m : Met session bytes j c r u k) where
    abbrev s : State
    s = state_of session space first bytes j

    -- it left the state that the definitions say
    met : state_of (session_after session r) space first u k ≡ after s (called b t s c)
    unfolding session_after outcome_of answered after
    met = by (called b t s c) refl r m.answer m.window m.journal
      where
        by : (a : Answer State) → called b t s c ≡ a → (q : Result ℕ Refusal) → outcome_of q ≡ answered a → u ≡ window_left s a → k ≡ journal_left s a
            → state_of (session_after session q) space first u k ≡ after s a
        by (accepted a) e (Ok n) x y z = let w = same_window s a c e in state_is a (same_accepted x) (sym w.0) (sym w.1) y z
        by (accepted a) e (Err g) x y z = impossible (cc)
        by (refused f) e (Ok n) x y z = impossible (cc)
        by (refused f) e (Err g) x y z = cc

  -- "each call gets the same text, table, window and journal and the last call's session, and nothing else writes to these": from this session value and
  -- these bytes of window and journal the calls come to those
  unfoldable pub Ran : ℕ → List ℕ → List ℕ → List Call → ℕ → List ℕ → List ℕ → Type 0
  Ran session bytes j [] n v l = (n ≡ session) × (v ≡ bytes) × (l ≡ j)
  Ran session bytes j (c ∷ cs) n v l = (r : Result ℕ Refusal) × (u : List ℕ) × (k : List ℕ) × Met session bytes j c r u k × Ran (session_after session r) u k cs n v l

  ran : (session : ℕ) (bytes j : List ℕ) (cs : List Call) (n : ℕ) (v l : List ℕ) → Ran session bytes j cs n v l
      → state_of n space first v l ≡ after_all b t (state_of session space first bytes j) cs
  unfolding Ran after_all
  ran session bytes j [] n v l h = let x = h.0 in let y = h.1 in let z = h.2 in cc
  ran session bytes j (c ∷ cs) n v l (r, u, k, m, h) = ran (session_after session r) u k cs n v l h ∙ ap (λ s. after_all b t s cs) (met m)

  module _ (bytes j : List ℕ) (cs : List Call) (n : ℕ) (v l : List ℕ) (h : Ran 0 bytes j cs n v l) where
    abbrev w : Window
    w = window_of space first bytes

    -- the edits that stand in the end, the latest first
    abbrev pub stand : List Edit
    stand = remaining b t [] (opened w j) cs

    reached : state_of n space first v l ≡ after_all b t (opened w j) cs
    unfolding opened
    reached = ran 0 bytes j cs n v l h

    -- "After any mix of edits and undos, refused ones included, the window holds what the remaining edits alone, from the opening window, would give."
    pub window_after_all : v ≡ (applied b t w stand).bytes
    window_after_all = ap (λ (s : State). s.window.bytes) reached ∙ ap (λ (x : Window). x.bytes) (window_is b t w j cs)

    -- "keeps up to 64 accepted edits"
    pub at_most_64_stand : (n ≡ length stand) × (n ≤ 64)
    at_most_64_stand =
        let e : n ≡ length stand = ap (λ (s : State). s.session) reached ∙ session_is b t w j cs in
        (e, rw e (at_most_64 b t w j cs))

  -- ── an edit and its undo ──

  accepted_answer : (a : Answer State) (n : ℕ) {P : Type 0} → outcome_of (Ok n) ≡ answered a → ((x : State) → a ≡ accepted x → P) → P
  unfolding outcome_of answered
  accepted_answer (accepted x) n e k = k x refl
  accepted_answer (refused f) n e k = impossible (cc)

  taken_outcome : (a : Answer State) (x : State) (r : Result ℕ Refusal) → a ≡ accepted x → outcome_of r ≡ answered a → r ≡ Ok x.session
  unfolding outcome_of answered
  taken_outcome a x (Ok n) e z = ap Ok (same_accepted (z ∙ rw e))
  taken_outcome a x (Err g) e z = let y = rw e at z in impossible (cc)

  -- what an accepted call leaves
  left_by_law : (s : State) {a : Answer State} {x : State} → a ≡ accepted x → after s a ≡ x
  unfolding after
  left_by_law s e = rw e

  -- undo straight after an accepted edit gives back window and session value; the journal's bytes behind the standing entries may be others
  pub undo_gives_back : (session : ℕ) (bytes j : List ℕ) (e : Edit) (n : ℕ) (u k : List ℕ) → Met session bytes j (edit e) (Ok n) u k
      → (r : Result ℕ Refusal) (v l : List ℕ) → Met n u k undo r v l → (r ≡ Ok session) × (v ≡ bytes) × (l ≡ k)
  unfolding called session_after
  undo_gives_back session bytes j e n u k m r v l o =
      let s = state_of session space first bytes j in
      accepted_answer (edited b t e s) n m.answer λ a q.
      let x : state_of n space first u k ≡ a = met m ∙ left_by_law s q in
      let z : undone b t (state_of n space first u k) ≡ accepted (record { session = session; window = window_of space first bytes; journal = k }) =
      ap (undone b t) x ∙ edit_undo b t e s a q ∙ ap (λ i. accepted (record { session = session; window = window_of space first bytes; journal = i })) (sym (ap (λ (y : State). y.journal) x)) in
      let i = left_by_law (state_of n space first u k) z in
      (taken_outcome (undone b t (state_of n space first u k)) _ r z o.answer, o.window ∙ ap (λ (y : State). y.window.bytes) i, o.journal ∙ ap (λ (y : State). y.journal) i)
