-- What edits and undos answer and leave.
use Rattle.std.specs.Prelude.{List, cond, ℕ, ◌+◌, Result, Ok, Err}
use Rattle.cdi.specs.Faults.{fault, Answer, accepted, refused, ◌and_then◌}
use Rattle.cdi.specs.Access as A
use Rattle.cdi.specs.Access.{Value, first_cause, write_causes, write_into, overwritten}
use Rattle.access_kinds.specs.Told.{window_of}
use Rattle.undo_model.specs.Journal.{entry_bytes, room, beginning}
use Rattle.undo_model.specs.Sessions.{State, holding, entry_of, can_stand, after}
use Rattle.refusals.specs.declared.Refusal.{Refusal}
use Rattle.refusals.specs.Refusals.{fault_of}

unfoldable pub outcome_of : Result ℕ Refusal → Answer ℕ
outcome_of (Ok s) = accepted s
outcome_of (Err r) = refused (fault_of r)

-- a session value, the window and the journal, as a call is handed them
abbrev pub state_of : ℕ → ℕ → ℕ → List ℕ → List ℕ → State
state_of session space first bytes journal = record { session = session; window = window_of space first bytes; journal = journal }

-- what a call leaves of the window and of the journal
abbrev pub window_left : State → Answer State → List ℕ
window_left s a = (after s a).window.bytes

abbrev pub journal_left : State → Answer State → List ℕ
journal_left s a = (after s a).journal

-- an edit of variable n whose setting is known
unfoldable pub edited_in : A.Setting → ℕ → Value → State → Answer State
edited_in g n v s =
    first_cause (write_causes s.window v g) and_then λ u.
    cond (can_stand s g.variable)
    (accepted (record {
      session = s.session + 1;
      window = holding s.window (write_into s.window v g);
      journal = overwritten (beginning (room s.journal) s.session) (entry_bytes (entry_of n s.window g.variable)) s.journal;
    }))
    (refused (fault 30 0))
