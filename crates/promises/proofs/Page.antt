-- The three promises, of any answers that the contracts of the public functions allow: `answer_of r ≡ planned b t` is all that is known of an answer r of `plan`.
-- Terms has the words of this page, and says where those of the contracts stand; `told c` are the segments that content c describes, and `walk` copies out every
-- group in full and goes from top to bottom. `Told` says that no stage has a fault and the table has room (`Faultless`), and gives the counts.
use mathlib.Core.Path.{◌≡◌}
use mathlib.Core.List.{List, ◌∷◌, ◌++◌}
use mathlib.Core.Bool.{true, false}
use mathlib.Core.Option.{some}
use mathlib.Core.Logic.{◌⊎◌, ◌↔◌}
use Prim.Native.Nat.{ℕ, ◌+◌, ◌*◌, ◌-◌, ◌/◌, ◌≤◌, ◌<◌, min}
use lib.IntN.{ℤ}
use lib.ListN.{length, take, drop, get_or}
use Rattle.std.specs.Prelude.{Result, Ok, Err}
use Rattle.promises.proofs.Terms.{Fault, fault, before, least, accepted, refused, content, Found, walk, records_of, table_of, is_plan, segments_of, locating, leaving, described, planned, table_after, Value, Setting, setting_of, first_cause, write_causes, read_from, stored, written, window_after, read, NoZero, Passed, SixtyFour, answer_of, Planned, Refusal, refusal, sizes, told, Told, told_of, Variable, Absent, batch, listed, wanted_of, Wanted, window_of, written_of, reading_of, ReadAt, Reading, start_for, MarkupNumber, RuleNumber, TextNumber, Among, of_markup, of_elements, Counted, Cause, AccessCause, variable_at, numbers_at, echo}
use Rattle.locate.specs.declared.Absent.TheVariants.{NotAPlan, NoVariable}
use Rattle.access_reading.specs.declared.Reading.TheVariants as reading
use Rattle.plan.proofs.Promises as planning
use Rattle.access.proofs.Promises as access
use Rattle.promises.proofs.Steps as steps
use Rattle.promises.proofs.Accesses as accesses
use Rattle.promises.proofs.Calls as calls

-- ── 1: accepted, or refused with number and place for exactly the stated cause; a refusal changes nothing; bytes after the first zero change no answer ──

-- `plan` on any text b and any table t: r is the answer, u the table afterwards
module _ (b : List ℕ) (t : List ℤ) {r : Result Planned Refusal} {u : List ℤ} (answer : answer_of r ≡ planned b t) (after : u ≡ table_after b t) where
  -- It is refused exactly where there is a cause: the fault of the earliest stage that has one.
  pub plan_refused : {m p : ℕ} → r ≡ Err (refusal m p) ↔ Cause b t m p
  plan_refused = steps.refused_exactly b t answer

  -- A refusal has one of the numbers from 1 to 7, from 81 to 88, and from 9 to 13.
  pub plan_number : {m p : ℕ} → r ≡ Err (refusal m p) → TextNumber m ⊎ (m ≡ 13)
  plan_number e = steps.refused_number b t answer e

  -- 13 comes exactly where stages 1 to 12 have no fault and 8 times the records exceed the table's length.
  pub plan_short : {p : ℕ} → r ≡ Err (refusal 13 p) ↔ ((c : List ℕ) × Counted b c × (length t < 8 * records_of (told c)) × (p ≡ 0))
  plan_short = steps.short_exactly b t answer

  -- A refusal leaves the table as it was.
  pub plan_refusal_keeps : {m p : ℕ} → r ≡ Err (refusal m p) → u ≡ t
  plan_refusal_keeps e = planning.refusal_keeps b t answer e after

-- Stages 1 to 12 have their numbers: the markup 4 to 7, the rules of the elements 81 to 88, 9 and 10, the addresses 11. 8 is none of them.
pub stage_numbers : (b c : List ℕ) (f : Fault)
    → (described b ≡ refused f → TextNumber f.number)
    × (least (of_markup c) ≡ some f → MarkupNumber f.number)
    × (least (of_elements c) ≡ some f → RuleNumber f.number)
    × (leaving 0 (told c) ≡ some f → f.number ≡ 11)
stage_numbers = steps.stage_numbers

-- The least fault is one of the list and comes before every other: by place, then by the rank of its number.
pub least_is_first : (fs : List Fault) (f : Fault) → least fs ≡ some f → Among f fs × ((g : Fault) → Among g fs → before f g ≡ true)
least_is_first fs f e = (steps.least_among fs f e, λ g a. steps.least_before fs f g e a)

-- `locate` on any table: 20 where it is no plan, 21 from the count of its walk on, and below that the walk's entry.
pub locate_answers : (t : List ℤ) (n : ℕ) (q : Result Variable Absent) → told_of q ≡ locating t n
    → (is_plan t ≡ false → q ≡ Err NotAPlan)
    × (is_plan t ≡ true → length (walk (segments_of t)) ≤ n → q ≡ Err NoVariable)
    × (is_plan t ≡ true → n < length (walk (segments_of t)) → (o : Found) → q ≡ variable_at (get_or (walk (segments_of t)) n o))
locate_answers = accesses.locates

-- writing and reading with any text, table, number and window
module _ (b : List ℕ) (t : List ℤ) (n space first : ℕ) (bytes : List ℕ) where
  module _ (v : Value) (s : Result (Unit {0}) Refusal) (said : written_of s ≡ written b t n (window_of space first bytes) v) {m p : ℕ} where
    -- A write is refused exactly where there is a cause: planning's up to 12, then 20, 21, and the first of 27, 22, 23, 25, 24, 26.
    pub write_refused : s ≡ Err (refusal m p) ↔ AccessCause b t n (λ x. first_cause (write_causes (window_of space first bytes) v x) ≡ refused (fault m p)) m p
    write_refused = accesses.write_refused_exactly b t n (window_of space first bytes) v s said

    pub write_number : s ≡ Err (refusal m p) → TextNumber m ⊎ ((20 ≤ m) × (m ≤ 27))
    write_number e = accesses.write_number b t n (window_of space first bytes) v s said e

    -- A refused write leaves the window as it was.
    pub write_refusal_keeps : {new : List ℕ} → new ≡ window_after b t n (window_of space first bytes) v → s ≡ Err (refusal m p) → new ≡ bytes
    write_refusal_keeps left e = access.refusal_writes_nothing b t n space first bytes v said left e

  module _ (q : Result Reading Refusal) (is : reading_of bytes q ≡ read b t n (window_of space first bytes)) (at : ReadAt (start_for b t n first) bytes q) {m p : ℕ} where
    -- A reading is refused exactly where there is a cause: planning's up to 12, then 20, 21, 27, 26, 28.
    pub read_refused : q ≡ Err (refusal m p) ↔ AccessCause b t n (λ x. read_from (window_of space first bytes) x ≡ refused (fault m p)) m p
    read_refused = accesses.read_refused_exactly b t n space first bytes q is at

    pub read_number : q ≡ Err (refusal m p) → TextNumber m ⊎ ((20 ≤ m) × (m ≤ 28))
    read_number e = accesses.read_number b t n space first bytes q is at e

-- Two texts that agree up to and including a first zero, wherever it stands: planning, writing and reading answer the same and leave the same.
module _ (c x y : List ℕ) (h : NoZero c) (t : List ℤ) where
  pub planning_alike : (r q : Result Planned Refusal) (u o : List ℤ) → answer_of r ≡ planned (c ++ 0 ∷ x) t → answer_of q ≡ planned (c ++ 0 ∷ y) t
      → u ≡ table_after (c ++ 0 ∷ x) t → o ≡ table_after (c ++ 0 ∷ y) t → (r ≡ q) × (u ≡ o)
  planning_alike = steps.plans_alike _ _ (steps.described_same c h x y) t

  pub writing_alike : (n space first : ℕ) (bytes : List ℕ) (v : Value) (r q : Result (Unit {0}) Refusal) (u o : List ℕ)
      → written_of r ≡ written (c ++ 0 ∷ x) t n (window_of space first bytes) v → written_of q ≡ written (c ++ 0 ∷ y) t n (window_of space first bytes) v
      → u ≡ window_after (c ++ 0 ∷ x) t n (window_of space first bytes) v → o ≡ window_after (c ++ 0 ∷ y) t n (window_of space first bytes) v → (r ≡ q) × (u ≡ o)
  writing_alike = steps.writes_alike _ _ (steps.described_same c h x y) t

  pub reading_alike : (n space first : ℕ) (bytes : List ℕ) (r q : Result Reading Refusal)
      → reading_of bytes r ≡ read (c ++ 0 ∷ x) t n (window_of space first bytes) → reading_of bytes q ≡ read (c ++ 0 ∷ y) t n (window_of space first bytes)
      → ReadAt (start_for (c ++ 0 ∷ x) t n first) bytes r → ReadAt (start_for (c ++ 0 ∷ y) t n first) bytes q → r ≡ q
  reading_alike = steps.reads_alike _ _ (steps.described_same c h x y) t

  -- A first zero at 65,536 or later is too late: 1, at 65,536.
  pub zero_too_late : 65535 < length c → (r : Result Planned Refusal) → answer_of r ≡ planned (c ++ 0 ∷ x) t → r ≡ Err (refusal 1 65536)
  zero_too_late l r e = steps.late_answer c h l x t r e

-- ── 2: with room, accepted exactly when the rules are met; an accepted write stores the value, changes no other byte and reads back ──

-- A text is accepted exactly when no stage has a fault and the table has room, and then with its counts.
pub plan_accepted : (b : List ℕ) (t : List ℤ) (r : Result Planned Refusal) → answer_of r ≡ planned b t → {n v : ℕ} → r ≡ Ok (sizes n v) ↔ Told b t n v
plan_accepted b t r answer = steps.accepted_exactly b t answer

-- A write is accepted exactly when there is such a variable and the value passes: kind, bounds, text, map, window.
pub write_accepted : (b : List ℕ) (t : List ℤ) (n space first : ℕ) (bytes : List ℕ) (v : Value) (s : Result (Unit {0}) Refusal) → written_of s ≡ written b t n (window_of space first bytes) v
    → s ≡ (Ok tt) ↔ ((x : Setting) × (setting_of b t n ≡ accepted x) × Passed (window_of space first bytes) v x)
write_accepted b t n space first bytes v s said = accesses.write_accepted_exactly b t n (window_of space first bytes) v s said

-- planning that accepts with n records and v variables: c is the content, and `plan` the first 8 times n numbers of the table afterwards
module _ (b : List ℕ) (t : List ℤ) {r : Result Planned Refusal} {u : List ℤ} (answer : answer_of r ≡ planned b t) (after : u ≡ table_after b t) {n v : ℕ} (e : r ≡ Ok (sizes n v)) (c : List ℕ) (ends : content b ≡ some c) where
  abbrev plan : List ℤ
  plan = take (8 * n) u

  -- then an accepted write of the value x (or of the text beside it) into variable k, which leaves the bytes `new`; f is entry k of the walk
  module _ (k space first : ℕ) (bytes : List ℕ) (x : Wanted) (text : List ℕ) {s : Result (Unit {0}) Refusal} {new : List ℕ}
      (said : written_of s ≡ written b plan k (window_of space first bytes) (wanted_of x text)) (left : new ≡ window_after b plan k (window_of space first bytes) (wanted_of x text))
      (ok : s ≡ (Ok tt)) (o : Found) where
    abbrev f : Found
    f = get_or (walk (told c)) k o

    -- The variable is one of the walk and lies in the window.
    pub write_lies : (k < v) × (space ≡ f.space) × (first ≤ f.address) × (f.address + f.size ≤ first + length bytes)
    write_lies = calls.lies_inside b t answer e c ends after k space first bytes x text said left ok o

    -- Its bytes are those that stand for the value.
    pub write_stores : take f.size (drop (f.address - first) new) ≡ stored f.size (wanted_of x text)
    write_stores = calls.stored_is b t answer e c ends after k space first bytes x text said left ok o

    -- Every other byte is as it was.
    pub write_keeps_others : (length new ≡ length bytes) × ((i z : ℕ) → (i < f.address - first) ⊎ (f.address - first + f.size ≤ i) → get_or new i z ≡ get_or bytes i z)
    write_keeps_others = calls.only_its_bytes b t answer e c ends after k space first bytes x text said left ok o

    -- Reading before any other write answers with that value, and that it could be written. (An event ID comes in with 64 bits.)
    pub write_reads_back : (q : Result Reading Refusal) → reading_of new q ≡ read b plan k (window_of space first new) → SixtyFour (wanted_of x text) → ReadAt (start_for b plan k first) new q
        → (q ≡ echo (f.address - first) x text) × (reading_of new q ≡ accepted (record { value = wanted_of x text; writable = true }))
    write_reads_back = calls.read_back b t answer e c ends after k space first bytes x text said left ok o

  -- ── 3: a compact table, and the nth variable of it alone ──

  -- The records stand in front and the rest is as it was; n are the records, v the variables that the walk meets; the records are a plan.
  pub table_made : (plan ≡ table_of (told c)) × (drop (8 * n) u ≡ drop (8 * n) t) × (n ≡ records_of (told c)) × (v ≡ length (walk (told c))) × (is_plan plan ≡ true)
  table_made = calls.made b t answer e c ends after

  -- `locate` on these numbers alone: below the count it is entry k of the walk, from the count on there is none.
  pub plan_locates : (k : ℕ) (q : Result Variable Absent) → told_of q ≡ locating plan k → (k < v → (o : Found) → q ≡ variable_at (get_or (walk (told c)) k o)) × (v ≤ k → q ≡ Err NoVariable)
  plan_locates = calls.located b t answer e c ends after

  -- `list` on these numbers alone, from variable k on into any slice o: as many as have room or remain, each its entry of the walk, and the rest as it was.
  pub plan_lists : (k : ℕ) (o : List ℕ) {m : ℕ} → m ≡ length (batch (walk (segments_of plan)) k o) → {p : List ℕ} → p ≡ listed (walk (segments_of plan)) k o
      → (m ≡ min (length o / 5) (v - k)) × ((j : ℕ) → j < m → (f : Found) → take 5 (drop (j * 5) p) ≡ numbers_at (get_or (walk (told c)) (k + j) f)) × (drop (m * 5) p ≡ drop (m * 5) o)
  plan_lists k o counts fills = calls.lists b t answer e c ends after k o counts fills
