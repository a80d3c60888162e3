-- What is summed up along the way: how the state changes at each step of the tree, and what leaving an element writes to the table. Parsing
-- is proved for any such definitions and never looks into them.
use Rattle.std.specs.Prelude.{None, List, false, cond, ℕ, eqb, ℤ}
use Rattle.cdi.specs.Pieces.{Attribute, Piece}
use Rattle.rules_judge.specs.Judging as J
use Rattle.tally_tag.specs.Tallying as G
use Rattle.parse_sums.specs.declared.State.{State}

-- how many records a state counts: one at most for each element that was begun
unfoldable pub records_of : State → ℕ
records_of st = st.tally.records

-- the state before the text
unfoldable pub at_first : State
at_first = record { judge = J.fresh None 0 false; tally = G.at_start; root = 0 }

-- the state inside an element whose start tag has this place, name and attributes; the first at level 0 is the root
unfoldable pub enter_of : State → ℕ → List ℕ → List Attribute → State
enter_of st p n s =
    record { judge = J.enter_of st.judge p n s; tally = G.enter_of st.tally n; root = cond (eqb st.tally.level 0) p st.root }

-- the state behind any other piece
unfoldable pub other_of : State → ℕ → Piece → State
other_of st p c = record { judge = J.other_of st.judge p c; tally = st.tally; root = st.root }

-- the state behind an element, from the one before it and the one at its content's end
unfoldable pub leave_of : State → ℕ → List ℕ → List Attribute → State → State
leave_of outer p n s inner =
    record { judge = J.leave_of outer.judge p n s inner.judge; tally = G.leave_of outer.tally p n s inner.tally; root = inner.root }

-- what leaving it makes of the table
unfoldable pub written_of : State → ℕ → List ℕ → List Attribute → State → List ℤ → List ℤ
written_of outer p n s inner t = G.written outer.tally p n s inner.tally t
