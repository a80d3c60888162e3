-- The steps of the judge by the numbers of elements: what the code answers for a tag, a child and a plain leaf.
use Rattle.std.specs.Prelude.{List, [], ◌∷◌, ◌++◌, Bool, true, false, cond, not, ◌&&◌, ◌||◌, ℕ, eqb}
use Rattle.std.proofs.Math.Option.{Option, none, some}
use Rattle.cdi.specs.Faults.{Fault, fault}
use Rattle.cdi.specs.Pieces.{Piece, remark, refer}
use Rattle.cdi.specs.Rules.{unknown_element}
use Rattle.rules_judge.specs.declared.Said.{Said}
use Rattle.rules_judge.specs.declared.Said.TheVariants.{No}
use Rattle.rules_judge.specs.declared.Judge.{Judge}
use Rattle.rules_judge.specs.Judging.{blamed, is_value, fresh, bounding, passed}
use Rattle.rules_judge.specs.Tables.{many_at, in_turn, turn_number}
use Rattle.rules_judge.specs.Parts.{is_limit, missing_by, number_by, int_by, left_of}

-- ── entering a child ──

-- one fault or none
unfoldable pub faults_of : Option Fault → List Fault
faults_of none = []
faults_of (some f) = f ∷ []

-- the number of the row inside a child: a child without an entry isn't judged
unfoldable pub row_in : ℕ → ℕ → ℕ
row_in entry child = cond (eqb entry 0) 24 child

-- the faults of a tag behind the last entry: none where nothing is judged; it has no entry; it doesn't stand in its turn; else the least of its
-- attributes' faults
unfoldable pub tag_faults : ℕ → ℕ → ℕ → ℕ → Bool → Option Fault → List Fault
tag_faults p row last entry turn told =
    cond (eqb entry 0) (cond (eqb row 24) [] (unknown_element p ∷ [])) (cond turn (faults_of told) (fault (turn_number last entry) p ∷ []))

-- a child of that entry stands in its turn
unfoldable pub turn_of : Judge → ℕ → Bool
turn_of j entry = in_turn j.last entry (eqb entry (many_at j.row))

-- the judge inside the child of that number and entry
unfoldable pub entered_by : Judge → ℕ → ℕ → ℕ → Option Fault → Judge
entered_by j p child entry told =
    fresh (blamed j.least (tag_faults p j.row j.last entry (turn_of j entry) told)) (row_in entry child) (j.numeric || eqb (row_in entry child) 6)

-- ── comments, instructions and references ──

-- a reference, of which no rule asks what it refers to; or a comment or an instruction
unfoldable pub rare_of : Bool → Piece
rare_of true = refer 0
rare_of false = remark

-- ── leaving a child ──

-- the size of an int: 1, 2, 4 or 8, and 0 for none
unfoldable pub size_at : ℕ → ℕ
size_at n = cond (eqb n 0) 0 (cond (eqb n 1) 1 (cond (eqb n 2) 2 (cond (eqb n 4) 4 8)))

-- the faults that are known behind a child's content
unfoldable pub content_faults : ℕ → ℕ → Bool → ℕ → Judge → List Fault
content_faults p child numeric size i =
    missing_by p child i.one i.two ++ (number_by p numeric child i.said ++ int_by p child (size_at size) i)

-- a min or max stands in its turn, has no attributes, and is a number in range
unfoldable pub sound_by : ℕ → Bool → Bool → Said → Bool
sound_by child turn bare said = not (is_limit child) || (turn && (bare && is_value said))

-- the judge behind the child of that number and entry
unfoldable pub left_by : Judge → ℕ → ℕ → ℕ → Bool → ℕ → Judge → Judge
left_by j p child entry bare size i =
    cond (eqb entry 0) (passed j i)
    (left_of j p child entry i.said (blamed i.least (content_faults p child j.numeric size i)) (j.sound && sound_by child (turn_of j entry) bare i.said))

-- with what a min or max at a place has said, where it is the first
unfoldable pub bounded_by : Judge → ℕ → ℕ → Said → Judge
bounded_by j p child said =
    record {
      least = j.least;
      row = j.row;
      numeric = j.numeric;
      last = j.last;
      one = j.one;
      two = j.two;
      said = j.said;
      low = bounding (eqb child 19) j.low p said;
      high = bounding (eqb child 20) j.high p said;
      sound = j.sound;
    }

-- ── a plain leaf ──

-- the judge behind a child in its turn that holds text only and has no fault
unfoldable pub leaf_by : Judge → ℕ → ℕ → ℕ → Said → Judge
leaf_by j p child entry said =
    record {
      least = j.least;
      row = j.row;
      numeric = j.numeric;
      last = entry;
      one = j.one || eqb entry 1;
      two = j.two || eqb entry 2;
      said = No;
      low = bounding (eqb child 19) j.low p said;
      high = bounding (eqb child 20) j.high p said;
      sound = j.sound && (not (is_limit child) || is_value said);
    }
