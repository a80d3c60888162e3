-- What an undo answers and leaves, of a text and a table that have been checked.
use mathlib.Core.Path.{◌≡◌, refl, sym, ap, ◌∙◌}
use mathlib.Core.List.{List}
use mathlib.Core.Bool.{Bool, true, false, cond, ◌&&◌}
use mathlib.Core.Option.{Option, none, some}
use Prim.Native.Nat.{ℕ, ◌≤◌}
use native.Mathlib.Omega.{arith}
use borrow.Author.Rules.{rules}
use borrow.Author.Tests.{ne_eqb}
use lib.IntN.{ℤ}
use Rattle.cdi.specs.Faults.{Fault, fault, Answer, accepted, refused, ◌and_then◌}
use Rattle.cdi.specs.Walk.{Found}
use Rattle.cdi.specs.Plans.{variable_of}
use Rattle.cdi.specs.Planning.{Description, described}
use Rattle.cdi.specs.Access as A
use Rattle.cdi.specs.Access.{exact, setting_in, setting_of}
use Rattle.cdi.proofs.Quiet.{impossible, through}
use Rattle.access_lookup.specs.Told.{end_in, known_of, lookup_of}
use Rattle.undo_model.specs.Journal.{room, lie, entry_at}
use Rattle.undo_model.specs.Sessions.{State, latest, can_undo, taken_back, undone_in, undone, answered, after}
use Rattle.undo_edit.specs.Told.{outcome_of, state_of, window_left}
use Rattle.refusals.specs.declared.Refusal.{Refusal}
use Rattle.refusals.specs.Refusals.{refusal}
use Rattle.std.specs.Prelude.{Result, Ok, Err, Some, None, Option as Maybe}
use Rattle.undo_entries.specs.Begun.{Head, last_of, head_in, last_in}
use Rattle.undo_entries.specs.declared.Last.{Last}
use Rattle.access_kinds.specs.Told.{no_text, setting_is}
use Rattle.access_kinds.specs.declared.Setting.{Setting}
use Rattle.undo_take.specs.Held.{Held}

module _ (b : List ℕ) (t : List ℤ) {end : ℕ} (known : known_of b t ≡ accepted end) (session space first : ℕ) (bytes j : List ℕ) where
  abbrev st : State
  st = state_of session space first bytes j

  by_description : {P : Type 0} → ((d : Description) → (described b and_then exact t) ≡ accepted d → P) → P
  unfolding known_of
  by_description k = through (described b and_then exact t) (λ d. accepted (end_in b)) end known λ d p z. k d p

  pub none_stand : session ≡ 0 → undone b t st ≡ refused (fault 31 0)
  unfolding undone undone_in
  none_stand z = by_description λ d p. rw (p, z)

  module _ (h : session ≡ 0 → ⊥) where
    pub entry_missing : lie (room j) session ≡ false → undone b t st ≡ refused (fault 35 0)
    unfolding undone undone_in taken_back can_undo
    entry_missing l = by_description λ d p. rw (p, ne_eqb session 0 h) (by (variable_of d.segments (latest st).number))
      where
        by : (x : Answer Found) → taken_back st x ≡ refused (fault 35 0)
        by (refused f) = refl
        by (accepted x) = rw l

    pub no_variable : {f : Fault} → setting_of b t (latest st).number ≡ refused f → undone b t st ≡ refused (fault 35 0)
    unfolding undone undone_in setting_of setting_in taken_back
    no_variable {f} e = by_description λ d p. rw (p, ne_eqb session 0 h) (by d (variable_of d.segments (latest st).number) refl (rw p at e))
      where
        by : (d : Description) (x : Answer Found) → variable_of d.segments (latest st).number ≡ x → setting_in t (latest st).number d ≡ refused f → taken_back st x ≡ refused (fault 35 0)
        by d (refused g) q z = refl
        by d (accepted x) q z = let y = rw q at z in impossible (cc)

    pub of_variable : {g : A.Setting} → setting_of b t (latest st).number ≡ accepted g → undone b t st ≡ taken_back st (accepted g.variable)
    unfolding undone undone_in setting_of setting_in
    of_variable {g} e = by_description λ d p. rw (p, ne_eqb session 0 h) (by d (variable_of d.segments (latest st).number) refl (rw p at e))
      where
        by : (d : Description) (x : Answer Found) → variable_of d.segments (latest st).number ≡ x → setting_in t (latest st).number d ≡ accepted g → taken_back st x ≡ taken_back st (accepted g.variable)
        by d (refused f) q z = let y = rw q at z in impossible (cc)
        by d (accepted x) q z = let y = rw q at z in cc

  abbrev a : Answer State
  a = undone b t st

  pub zero_told : session ≡ 0 → outcome_of (Err (refusal 31 0)) ≡ answered a
  unfolding outcome_of answered
  zero_told z = sym (rw (none_stand z))

  pub zero_window : session ≡ 0 → bytes ≡ window_left st a
  unfolding after
  zero_window z = sym (rw (none_stand z))

  module _ (h : session ≡ 0 → ⊥) {l : Maybe Last} (f : last_of l ≡ last_in (room j) session) where
    missing : l ≡ None → lie (room j) session ≡ false
    unfolding last_of last_in
    missing e = by (lie (room j) session) (head_in (room j) session) (sym f ∙ ap last_of e)
      where
        by : (x : Bool) (o : Head) → cond x (some o) none ≡ none → x ≡ false
        by true o q = impossible (cc)
        by false o q = refl

    pub missing_told : l ≡ None → outcome_of (Err (refusal 35 0)) ≡ answered a
    unfolding outcome_of answered
    missing_told e = sym (rw (entry_missing h (missing e)))

    pub missing_window : l ≡ None → bytes ≡ window_left st a
    unfolding after
    missing_window e = sym (rw (entry_missing h (missing e)))

    module _ {y : Last} (e : l ≡ Some y) where
      heads : (lie (room j) session ≡ true) × (head_in (room j) session ≡ record { number = y.number; size = y.size; from = y.from })
      unfolding last_of last_in head_in
      heads = by (lie (room j) session) refl (sym f ∙ ap last_of e)
        where
          by : (x : Bool) → lie (room j) session ≡ x → cond x (some (head_in (room j) session)) none ≡ some (record { number = y.number; size = y.size; from = y.from }) → (lie (room j) session ≡ true) × (head_in (room j) session ≡ record { number = y.number; size = y.size; from = y.from })
          by true p q = (p, cc)
          by false p q = impossible (cc)

      pub held : Held j session y.size y.from
      unfolding head_in
      held = record { lies = heads.0; sized = ap (λ (x : Head). x.size) heads.1; begins = ap (λ (x : Head). x.from) heads.1 }

      number_is : (latest st).number ≡ y.number
      unfolding latest entry_at head_in
      number_is = ap (λ (x : Head). x.number) heads.1

      module _ (c : List ℕ) {x : Result Setting Refusal} (k : lookup_of c x ≡ setting_of b t y.number) where
        module _ {r : Refusal} (q : x ≡ Err r) where
          nothing : a ≡ refused (fault 35 0)
          unfolding lookup_of
          nothing = no_variable h (ap (setting_of b t) number_is ∙ sym k ∙ ap (lookup_of c) q)

          pub nothing_told : outcome_of (Err (refusal 35 0)) ≡ answered a
          unfolding outcome_of answered
          nothing_told = sym (rw nothing)

          pub nothing_window : bytes ≡ window_left st a
          unfolding after
          nothing_window = sym (rw nothing)

        module _ {s : Setting} (q : x ≡ Ok s) where
          taken : a ≡ taken_back st (accepted (setting_is no_text s).variable)
          unfolding lookup_of setting_is
          taken = of_variable h (ap (setting_of b t) number_is ∙ sym k ∙ ap (lookup_of c) q)

          pub taken_told : (r : Result ℕ Refusal) → outcome_of r ≡ answered (taken_back st (accepted (setting_is no_text s).variable)) → outcome_of r ≡ answered a
          taken_told r o = o ∙ ap answered (sym taken)

          pub taken_window : {u : List ℕ} → u ≡ window_left st (taken_back st (accepted (setting_is no_text s).variable)) → u ≡ window_left st a
          taken_window o = o ∙ ap (window_left st) (sym taken)

pub ruleset undoing = (zero_told, zero_window, missing_told, missing_window, held, nothing_told, nothing_window, taken_told, taken_window, rules)
