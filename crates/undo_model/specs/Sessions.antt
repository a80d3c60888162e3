-- "A session over one text, table and window keeps up to 64 accepted edits with the bytes they replaced. Undo takes back the latest edit and its
-- journal room is used again."
use Rattle.std.specs.Prelude.{List, [], ◌∷◌, Bool, cond, ◌&&◌, ℕ, ◌+◌, ◌-◌, drop, eqb, ltb, ℤ}
use Rattle.cdi.specs.Faults.{fault, Answer, accepted, refused, ◌and_then◌}
use Rattle.cdi.specs.Walk.{Found}
use Rattle.cdi.specs.Plans.{variable_of}
use Rattle.cdi.specs.Planning.{Description, described}
use Rattle.cdi.specs.Access.{Window, Value, exact, setting_of, is_inside, start_in, overwritten, own_bytes, written, window_after}
use Rattle.undo_model.specs.Journal.{Entry, entry_bytes, room, entry_at, beginning, lie, has_room}

-- what a call is handed and what it leaves: the session value, which is how many edits stand, the window and the journal
pub record State : Type 0 where
  pub session : ℕ
  pub window : Window
  pub journal : List ℕ

-- opening: no edit stands, whatever the journal holds
unfoldable pub opened : Window → List ℕ → State
opened w j = record { session = 0; window = w; journal = j }

-- the window with other bytes
unfoldable pub holding : Window → List ℕ → Window
holding w bytes = record { space = w.space; first = w.first; bytes = bytes }

-- ── an edit ──

-- a value for the variable of this number
pub record Edit : Type 0 where
  pub number : ℕ
  pub value : Value

-- the window as writing leaves it
unfoldable pub wrote : List ℕ → List ℤ → Window → Edit → Window
wrote b t w e = holding w (window_after b t e.number w e.value)

-- number, size and "the bytes they replaced" of variable n, which is x
unfoldable pub entry_of : ℕ → Window → Found → Entry
entry_of n w x = record { number = n; size = x.size; old = own_bytes w x }

-- the value is stored in the window as writing does; behind the standing entries stands one more
unfoldable pub with_edit : List ℕ → List ℤ → Edit → State → Found → State
with_edit b t e s x = record {
  session = s.session + 1;
  window = wrote b t s.window e;
  journal = overwritten (beginning (room s.journal) s.session) (entry_bytes (entry_of e.number s.window x)) s.journal;
}

-- "30, exactly when 64 edits stand or the journal lacks that room"
unfoldable pub can_stand : State → Found → Bool
can_stand s x = ltb s.session 64 && has_room (room s.journal) s.session x.size

-- all refusals of writing, then 30; or what an accepted edit leaves
unfoldable pub edited : List ℕ → List ℤ → Edit → State → Answer State
edited b t e s =
    written b t e.number s.window e.value and_then λ u.
    setting_of b t e.number and_then λ g.
    cond (can_stand s g.variable) (accepted (with_edit b t e s g.variable)) (refused (fault 30 0))

-- ── an undo ──

unfoldable pub latest : State → Entry
latest s = entry_at (room s.journal) (beginning (room s.journal) (s.session - 1))

-- the old bytes stand in the window again; the journal is as it was
unfoldable pub without_edit : State → Found → State
without_edit s x = record {
  session = s.session - 1;
  window = holding s.window (overwritten (start_in s.window x) (latest s).old s.window.bytes);
  journal = s.journal;
}

-- the latest entry lies in the journal, and its size is that of the variable x, wholly inside the window
unfoldable pub can_undo : State → Found → Bool
can_undo s x = lie (room s.journal) s.session && (eqb x.size (latest s).size && is_inside s.window x)

-- "35, exactly when the latest entry doesn't lie in the journal or its number and size aren't those of a variable wholly inside the window"
unfoldable pub taken_back : State → Answer Found → Answer State
taken_back s (refused f) = refused (fault 35 0)
taken_back s (accepted x) = cond (can_undo s x) (accepted (without_edit s x)) (refused (fault 35 0))

-- "31 with no edit standing, then 35"
unfoldable pub undone_in : State → Description → Answer State
undone_in s d =
    let r = taken_back s (variable_of d.segments (latest s).number) in
    cond (eqb s.session 0) (refused (fault 31 0)) r

-- "for undo 1 to 12 and 20 as for writing", then these; or what an accepted undo leaves
unfoldable pub undone : List ℕ → List ℤ → State → Answer State
undone b t s = described b and_then exact t and_then undone_in s

-- ── what a call answers and leaves ──

-- "A refusal leaves session, window and journal unchanged."
unfoldable pub after : State → Answer State → State
after s (accepted a) = a
after s (refused f) = s

-- the session value, or the refusal
unfoldable pub answered : Answer State → Answer ℕ
answered a = a and_then λ s. accepted s.session

-- ── any mix of calls ──

pub data Call : Type 0 where
  edit : Edit → Call
  undo : Call

unfoldable pub called : List ℕ → List ℤ → State → Call → Answer State
called b t s (edit e) = edited b t e s
called b t s undo = undone b t s

-- "each call gets the same text, table, window and journal and the last call's session, and nothing else writes to these"
unfoldable pub after_all : List ℕ → List ℤ → State → List Call → State
after_all b t s [] = s
after_all b t s (c ∷ cs) = after_all b t (after s (called b t s c)) cs

-- the edits that stand after one call, the latest first: an accepted edit is put on top, an accepted undo takes the top off
unfoldable pub standing : List Edit → Call → Answer State → List Edit
standing es c (refused f) = es
standing es (edit e) (accepted s) = e ∷ es
standing es undo (accepted s) = drop 1 es

-- those that stand after all of them
unfoldable pub remaining : List ℕ → List ℤ → List Edit → State → List Call → List Edit
remaining b t es s [] = es
remaining b t es s (c ∷ cs) = remaining b t (standing es c (called b t s c)) (after s (called b t s c)) cs

-- "what the remaining edits alone, from the opening window, would give": the latest stands first, and writes into what the earlier ones give
unfoldable pub applied : List ℕ → List ℤ → Window → List Edit → Window
applied b t w [] = w
applied b t w (e ∷ es) = wrote b t (applied b t w es) e

unfoldable pub sessions_page : Unit {0}
unfolding opened holding wrote entry_of with_edit can_stand edited latest without_edit can_undo taken_back undone_in undone after answered called after_all standing remaining applied
sessions_page = tt
