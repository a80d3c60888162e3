-- One answer: any two outcomes that a contract allows are the same, and so are window and journal afterwards.
use mathlib.Core.Path.{◌≡◌, refl, sym, ap, ◌∙◌}
use mathlib.Core.List.{List}
use mathlib.Core.Option.{Option, some}
use Prim.Native.Nat.{ℕ}
use Rattle.cdi.specs.Faults.{Fault, Answer}
use Rattle.cdi.proofs.Quiet.{impossible, same_accepted, same_refused}
use Rattle.undo_model.specs.Sessions.{State}
use Rattle.undo_entries.specs.Begun.{Head, begun_of, last_of}
use Rattle.undo_entries.specs.declared.Last.{Last}
use Rattle.undo_edit.specs.Told.{outcome_of, window_left, journal_left}
use Rattle.refusals.specs.declared.Refusal.{Refusal}
use Rattle.refusals.specs.Refusals.{refusal}
use Rattle.std.specs.Prelude.{Result, Ok, Err, Some, None, Option as Maybe}

module _ {A : Type 0} where
  once : {x r q : A} → r ≡ x → q ≡ x → r ≡ q
  once e f = e ∙ sym f

-- ── entries ──

begun_alike : (r q : Maybe ℕ) → begun_of r ≡ begun_of q → r ≡ q
unfolding begun_of
begun_alike (Some i) (Some j) z = cc
begun_alike (Some i) None z = impossible (cc)
begun_alike None (Some j) z = impossible (cc)
begun_alike None None z = refl

-- of undo_entries::place_for
pub place_once : (a : Option ℕ) (r q : Maybe ℕ) → begun_of r ≡ a → begun_of q ≡ a → r ≡ q
place_once a r q e f = begun_alike r q (once e f)

same_head : {x y : Head} → some x ≡ some y → x ≡ y
same_head e = cc

abbrev latest : Head → Last
latest x = record { number = x.number; size = x.size; from = x.from }

last_alike : (r q : Maybe Last) → last_of r ≡ last_of q → r ≡ q
unfolding last_of
last_alike (Some l) (Some m) e = ap (λ x. Some (latest x)) (same_head e)
last_alike (Some l) None e = impossible (cc)
last_alike None (Some m) e = impossible (cc)
last_alike None None e = refl

-- of undo_entries::last_of
pub last_once : (a : Option Head) (r q : Maybe Last) → last_of r ≡ a → last_of q ≡ a → r ≡ q
last_once a r q e f = last_alike r q (once e f)

-- ── edits and undos ──

outcome_alike : (r q : Result ℕ Refusal) → outcome_of r ≡ outcome_of q → r ≡ q
unfolding outcome_of
outcome_alike (Ok s) (Ok t) z = ap Ok (same_accepted z)
outcome_alike (Ok s) (Err f) z = impossible (cc)
outcome_alike (Err f) (Ok t) z = impossible (cc)
outcome_alike (Err f) (Err g) z = ap (λ (x : Fault). Err (refusal x.number x.place)) (same_refused z)

-- of undo_edit::edit_setting, undo_take::undo_known, undo::edit_known, undo::edit_integer, undo::edit_event, undo::edit_text, undo::undo
pub outcome_once : (a : Answer ℕ) (r q : Result ℕ Refusal) → outcome_of r ≡ a → outcome_of q ≡ a → r ≡ q
outcome_once a r q e f = outcome_alike r q (once e f)

module _ (s : State) (a : Answer State) (u o : List ℕ) where
  -- of undo_edit::edit_setting, undo_take::undo_known, undo::edit_known, undo::edit_integer, undo::edit_event, undo::edit_text, undo::undo
  pub window_once : u ≡ window_left s a → o ≡ window_left s a → u ≡ o
  window_once e f = once e f

  -- of undo_edit::edit_setting, undo::edit_known, undo::edit_integer, undo::edit_event, undo::edit_text
  pub journal_once : u ≡ journal_left s a → o ≡ journal_left s a → u ≡ o
  journal_once e f = once e f
