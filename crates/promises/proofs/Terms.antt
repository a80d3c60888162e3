-- The words of the page: those of the contracts, from where they stand; why a text is refused; what the locator and a slice say of a variable; what is read of a
-- value that was written.
use mathlib.Core.Path.{◌≡◌}
use mathlib.Core.List.{List, [], ◌∷◌}
use mathlib.Core.Bool.{true, false, ◌&&◌}
use mathlib.Core.Option.{none, some}
use mathlib.Core.Logic.{◌⊎◌}
use Prim.Native.Nat.{ℕ, ◌+◌, ◌*◌, ◌≤◌, ◌<◌, min}
use lib.Dec.{ltb}
use lib.IntN.{ℤ}
use lib.ListN.{length}
use Rattle.cdi.specs.Lists.{begins}
use Rattle.cdi.specs.Text.{bad_character, first_line}
use Rattle.cdi.specs.Markup.{progress, markup_faults}
use Rattle.cdi.specs.Tree.{tree}
use Rattle.cdi.specs.Rules.{element_faults}
use Rattle.cdi.specs.Walk.{total}
use Rattle.cdi.specs.Planning.{Description, describe, cut}
use Rattle.std.specs.Prelude.{Ok}
use Rattle.maps.specs.declared.Wanted.TheVariants.{Number, Event, Text}
use Rattle.access_reading.specs.declared.Reading.TheVariants as answers
pub use Rattle.cdi.specs.Faults.{Fault, fault, before, least, accepted, refused}
pub use Rattle.cdi.specs.Text.{content}
pub use Rattle.cdi.specs.Walk.{Found, walk}
pub use Rattle.cdi.specs.Table.{records_of, table_of}
pub use Rattle.cdi.specs.Plans.{is_plan, segments_of, locating}
pub use Rattle.cdi.specs.Planning.{leaving, described, planned, table_after}
pub use Rattle.cdi.specs.Access.{Value, Setting, setting_of, first_cause, write_causes, read_from, stored, written, window_after, read}
pub use Rattle.cdi.proofs.Zero.{NoZero}
pub use Rattle.cdi.proofs.Back.{Passed, SixtyFour}
pub use Rattle.refusals.specs.declared.Refusal.{Refusal}
pub use Rattle.refusals.specs.Refusals.{refusal}
pub use Rattle.plan_stages.specs.Outlines.{sizes, answer_of}
pub use Rattle.plan_stages.specs.declared.Planned.{Planned}
pub use Rattle.plan.proofs.Promises.{told, Told}
pub use Rattle.locate.specs.Answers.{told_of}
pub use Rattle.std.specs.Prelude.{Result}
pub use Rattle.locate.specs.declared.Variable.{Variable}
pub use Rattle.locate.specs.declared.Absent.{Absent}
pub use Rattle.listing_fill.specs.Batch.{batch, listed}
pub use Rattle.maps.specs.Matches.{wanted_of}
pub use Rattle.maps.specs.declared.Wanted.{Wanted}
pub use Rattle.access_kinds.specs.Told.{window_of}
pub use Rattle.access_writing.specs.Told.{written_of}
pub use Rattle.access_reading.specs.Told.{reading_of, ReadAt}
pub use Rattle.access_reading.specs.declared.Reading.{Reading}
pub use Rattle.access.specs.Told.{start_for}

-- ── "Stages: 1; 2; 3; 4 to 7; 8 to 10; 11; 12; 13. The earliest stage speaks." "81 to 88 in that order replace 8 in its stage" ──

-- the numbers of stages 4 to 7, of those where 8 was, and of all from 1 to 12
abbrev pub MarkupNumber : ℕ → Type 0
MarkupNumber n = (4 ≤ n) × (n ≤ 7)

abbrev pub RuleNumber : ℕ → Type 0
RuleNumber n = ((81 ≤ n) × (n ≤ 88)) ⊎ ((9 ≤ n) × (n ≤ 10))

abbrev pub TextNumber : ℕ → Type 0
TextNumber n = ((1 ≤ n) × (n ≤ 7)) ⊎ (RuleNumber n ⊎ ((11 ≤ n) × (n ≤ 12)))

-- f is one of these faults
unfoldable pub Among : Fault → List Fault → Type 0
Among f [] = ⊥
Among f (g ∷ gs) = (f ≡ g) ⊎ Among f gs

-- the faults of stages 4 to 7, and of stages 81 to 88, 9 and 10
abbrev pub of_markup : List ℕ → List Fault
of_markup c = markup_faults (length c) (progress [] 0) (cut c)

abbrev pub of_elements : List ℕ → List Fault
of_elements c = element_faults (tree (cut c))

-- the place of the root
abbrev pub root_of : List ℕ → ℕ
root_of c = (describe (tree (cut c)) (tree (cut c))).root

-- b is a text with content c, and stages 1 to 3 have no fault
abbrev pub Opened : List ℕ → List ℕ → Type 0
Opened b c = (content b ≡ some c) × (bad_character c ≡ none) × (begins first_line c ≡ true)

-- nor have 4 to 7
abbrev pub Formed : List ℕ → List ℕ → Type 0
Formed b c = Opened b c × (of_markup c ≡ [])

-- nor have 81 to 88, 9 and 10
abbrev pub Ruled : List ℕ → List ℕ → Type 0
Ruled b c = Formed b c × (of_elements c ≡ [])

-- nor has 11
abbrev pub Kept : List ℕ → List ℕ → Type 0
Kept b c = Ruled b c × (leaving 0 (told c) ≡ none)

-- nor has 12
abbrev pub Counted : List ℕ → List ℕ → Type 0
Counted b c = Kept b c × (total (told c) ≤ 1000000)

-- why planning refuses text b and table t with number m and place p
pub data Cause (b : List ℕ) (t : List ℤ) (m p : ℕ) : Type 0 where
  -- 1: no zero stands in time
  endless : content b ≡ none → m ≡ 1 → p ≡ min (length b) 65536 → Cause b t m p
  -- 2: the first character that isn't allowed
  character : {c : List ℕ} → content b ≡ some c → bad_character c ≡ some p → m ≡ 2 → Cause b t m p
  -- 3: another first line
  line : {c : List ℕ} → content b ≡ some c → bad_character c ≡ none → begins first_line c ≡ false → m ≡ 3 → p ≡ 0 → Cause b t m p
  -- 4 to 7: the least fault of the markup
  markup : {c : List ℕ} → Opened b c → least (of_markup c) ≡ some (fault m p) → Cause b t m p
  -- 81 to 88, 9 and 10: the least fault against the table of elements
  rule : {c : List ℕ} → Formed b c → least (of_elements c) ≡ some (fault m p) → Cause b t m p
  -- 11: the first segment whose addresses leave 0 to 2^32
  address : {c : List ℕ} → Ruled b c → leaving 0 (told c) ≡ some (fault m p) → Cause b t m p
  -- 12: too many variables
  count : {c : List ℕ} → Kept b c → 1000000 < total (told c) → m ≡ 12 → p ≡ root_of c → Cause b t m p
  -- 13: too short a table
  room : {c : List ℕ} → Counted b c → length t < 8 * records_of (told c) → m ≡ 13 → p ≡ 0 → Cause b t m p

-- ── "first 1 to 12, then 20 (the table isn't exactly the one planned from this text), 21" ──

-- why writing or reading variable n with text b and table t is refused with number m and place p; `own` are the causes of a variable that is there
pub data AccessCause (b : List ℕ) (t : List ℤ) (n : ℕ) (own : Setting → Type 0) (m p : ℕ) : Type 0 where
  -- 1 to 12: the text's own refusal
  text : described b ≡ refused (fault m p) → AccessCause b t n own m p
  -- 20: another table
  table : {d : Description} → described b ≡ accepted d → (t ≡ table_of d.segments → ⊥) → m ≡ 20 → p ≡ 0 → AccessCause b t n own m p
  -- 21: no such variable
  number : {d : Description} → described b ≡ accepted d → t ≡ table_of d.segments → length (walk d.segments) ≤ n → m ≡ 21 → p ≡ 0 → AccessCause b t n own m p
  -- 22 to 28
  variable : {s : Setting} → setting_of b t n ≡ accepted s → own s → AccessCause b t n own m p

-- ── "record, space, address, size and kind" ──

-- the locator's answer for a variable
abbrev pub variable_at : Found → Result Variable Absent
variable_at f = Ok (record { «record» = f.number; space = f.space; address = f.address; size = f.size; kind = f.kind })

-- its numbers in a slice
abbrev pub numbers_at : Found → List ℕ
numbers_at f = f.number ∷ f.space ∷ f.address ∷ f.size ∷ f.kind ∷ []

-- ── a value that comes in, and is read back ──

-- the answer of reading an integer, an event ID or the text s that was written and begins at this place of the window: zero isn't negative, and it could be written
-- again
unfoldable pub echo : ℕ → Wanted → List ℕ → Result Reading Refusal
echo at (Number b m) s = Ok (answers.Integer (b && ltb 0 m) m true)
echo at (Event v) s = Ok (answers.Event v true)
echo at Text s = Ok (answers.Text at (at + length s) true)
