-- The whole answers: the check, the search and what is done with the setting.
use mathlib.Core.Path.{◌≡◌, sym, ap, ◌∙◌}
use mathlib.Core.List.{List}
use Prim.Native.Nat.{ℕ, ◌-◌}
use borrow.Author.Rules.{rules}
use lib.IntN.{ℤ}
use lib.ListN.{take, drop}
use Rattle.cdi.specs.Faults.{Fault, fault, Answer, accepted, refused, ◌and_then◌}
use Rattle.cdi.specs.Planning.{Description, described}
use Rattle.cdi.specs.Access as A
use Rattle.cdi.specs.Access.{Value, exact, setting_of, written, window_after}
use Rattle.cdi.proofs.Quiet.{impossible}
use Rattle.access_lookup.specs.Told.{end_in, known_of, lookup_of, Fits}
use Rattle.access_lookup.proofs.Seeking.{lent, known_end}
use Rattle.access_checked.specs.Told.{checked_of}
use Rattle.access_kinds.specs.Told.{setting_is, Good}
use Rattle.access.proofs.Accessing.{not_known, checked_exact}
use Rattle.undo_model.specs.Sessions.{State, wrote, with_edit, edited, undone_in, undone, after, answered}
use Rattle.undo_edit.specs.Told.{outcome_of, state_of, window_left, journal_left, edited_in}
use Rattle.undo.specs.Told.{edit_of}
use Rattle.std.specs.Prelude.{Result, Ok, Err}
use Rattle.refusals.specs.declared.Refusal.{Refusal}
use Rattle.refusals.specs.Refusals.{refusal, fault_of}
use Rattle.access_kinds.specs.declared.Setting.{Setting}

-- ── a call that is refused ──

module _ (s : State) {a : Answer State} {n p : ℕ} (e : a ≡ refused (fault n p)) where
  told : outcome_of (Err (refusal n p)) ≡ answered a
  unfolding outcome_of answered
  told = sym (rw e)

  window_kept : s.window.bytes ≡ window_left s a
  unfolding after
  window_kept = sym (rw e)

  journal_kept : s.journal ≡ journal_left s a
  unfolding after
  journal_kept = sym (rw e)

unedited : (b : List ℕ) (t : List ℤ) (n : ℕ) (v : Value) (s : State) {f : Fault} → setting_of b t n ≡ refused f → edited b t (edit_of n v) s ≡ refused f
unfolding edited written
unedited b t n v s e = rw e

-- ── the check ──

not_undone : (b : List ℕ) (t : List ℤ) (s : State) (f : Fault) → known_of b t ≡ refused f → undone b t s ≡ refused f
unfolding known_of undone
not_undone b t s f e = by (described b and_then exact t) e
  where
    by : (a : Answer Description) → (a and_then λ d. accepted (end_in b)) ≡ refused f → (a and_then undone_in s) ≡ refused f
    by (accepted d) x = impossible (cc)
    by (refused g) x = cc

module _ (b : List ℕ) (t : List ℤ) {a : Result ℕ Refusal} (e : checked_of a ≡ known_of b t) {r : Refusal} (q : a ≡ Err r) (session space first : ℕ) (bytes j : List ℕ) where
  abbrev s : State
  s = state_of session space first bytes j

  unknown : known_of b t ≡ refused (fault_of r)
  unfolding checked_of
  unknown = sym e ∙ ap checked_of q

  module _ (n : ℕ) (v : Value) where
    is_refused : edited b t (edit_of n v) s ≡ refused (fault_of r)
    is_refused = unedited b t n v s (not_known b t n (fault_of r) unknown)

    pub check_told : outcome_of (Err r) ≡ answered (edited b t (edit_of n v) s)
    check_told = told s is_refused

    pub check_window : bytes ≡ window_left s (edited b t (edit_of n v) s)
    check_window = window_kept s is_refused

    pub check_journal : j ≡ journal_left s (edited b t (edit_of n v) s)
    check_journal = journal_kept s is_refused

  pub undo_told : outcome_of (Err r) ≡ answered (undone b t s)
  undo_told = told s (not_undone b t s (fault_of r) unknown)

  pub undo_window : bytes ≡ window_left s (undone b t s)
  undo_window = window_kept s (not_undone b t s (fault_of r) unknown)

pub ruleset checking_first = (checked_exact, check_told, check_window, check_journal, undo_told, undo_window, rules)

-- ── the setting ──

module _ (b : List ℕ) (t : List ℤ) (n : ℕ) (e : ℕ) {a : Result Setting Refusal} (k : lookup_of (take e b) a ≡ setting_of b t n) where
  -- there is none
  module _ {r : Refusal} (q : a ≡ Err r) (v : Value) (session space first : ℕ) (bytes j : List ℕ) where
    abbrev st : State
    st = state_of session space first bytes j

    is_none : edited b t (edit_of n v) st ≡ refused (fault_of r)
    unfolding lookup_of
    is_none = unedited b t n v st (sym k ∙ ap (lookup_of (take e b)) q)

    pub none_told : outcome_of (Err r) ≡ answered (edited b t (edit_of n v) st)
    none_told = told st is_none

    pub none_window : bytes ≡ window_left st (edited b t (edit_of n v) st)
    none_window = window_kept st is_none

    pub none_journal : j ≡ journal_left st (edited b t (edit_of n v) st)
    none_journal = journal_kept st is_none

  -- there is one
  module _ {x : Setting} (q : a ≡ Ok x) where
    pub setting_good : Fits (take e b) a → Good (take (e - 0) (drop 0 b)) x
    unfolding Fits
    setting_good f = rw (lent b e) (rw q at f)

    module _ (v : Value) (s : State) where
      is_setting : setting_of b t n ≡ accepted (setting_is (take e b) x)
      unfolding lookup_of
      is_setting = sym k ∙ ap (lookup_of (take e b)) q

      is_edited : edited_in (setting_is (take (e - 0) (drop 0 b)) x) n v s ≡ edited b t (edit_of n v) s
      unfolding edited_in edited written with_edit wrote window_after
      is_edited = rw (lent b e) (sym (rw (is_setting, window_after)))

      pub setting_told : (r : Result ℕ Refusal) → outcome_of r ≡ answered (edited_in (setting_is (take (e - 0) (drop 0 b)) x) n v s) → outcome_of r ≡ answered (edited b t (edit_of n v) s)
      setting_told r z = z ∙ ap answered is_edited

      pub setting_window : {u : List ℕ} → u ≡ window_left s (edited_in (setting_is (take (e - 0) (drop 0 b)) x) n v s) → u ≡ window_left s (edited b t (edit_of n v) s)
      setting_window z = z ∙ ap (window_left s) is_edited

      pub setting_journal : {u : List ℕ} → u ≡ journal_left s (edited_in (setting_is (take (e - 0) (drop 0 b)) x) n v s) → u ≡ journal_left s (edited b t (edit_of n v) s)
      setting_journal z = z ∙ ap (journal_left s) is_edited

pub ruleset editing = (known_end, none_told, none_window, none_journal, setting_good, setting_told, setting_window, setting_journal, rules)
