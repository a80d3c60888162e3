-- What the planner knows of a text before it looks at the caller's table, and what its answers mean.
use Rattle.std.specs.Prelude.{Some, None, List, cond, ℕ, ◌*◌, ◌≤◌, leb, ℤ, length, take, Result, Ok, Err}
use Rattle.cdi.specs.Faults.{Answer, accepted, refused, ◌and_then◌}
use Rattle.cdi.specs.Tree.{Nodes}
use Rattle.cdi.specs.Walk.{total}
use Rattle.cdi.specs.Table.{table_of, records_of}
use Rattle.cdi.specs.Planning.{Description, Counts, markup, elements, addressing, counting, described, placed}
use Rattle.rules_judge.specs.Judging.{Least}
use Rattle.tally_tag.specs.Tallying.{Leaves}
use Rattle.refusals.specs.declared.Refusal.{Refusal}
use Rattle.refusals.specs.Refusals.{refusal, fault_of}
use Rattle.plan_stages.specs.declared.Planned.{Planned}

-- ── what a text comes to ──

-- the number of records, the number of variables, and the records
pub record Outline : Type 0 where
  pub records : ℕ
  pub variables : ℕ
  pub rows : List ℤ

abbrev pub outline : ℕ → ℕ → List ℤ → Outline
outline n v r = record { records = n; variables = v; rows = r }

unfoldable pub outlined : Description → Answer Outline
outlined d = accepted (outline (records_of d.segments) (total d.segments) (table_of d.segments))

-- stages 1 to 12 of a text
unfoldable pub outline_of : List ℕ → Answer Outline
outline_of b = described b and_then outlined

-- stages 4 to 12 of its content
unfoldable pub of_markup : List ℕ → Answer Outline
of_markup c = markup c and_then elements and_then addressing and_then counting and_then outlined

-- stages 8 to 12 of its tree
unfoldable pub of_tree : Nodes → Answer Outline
of_tree u = elements u and_then addressing and_then counting and_then outlined

-- an outline whose rows are those for which so many numbers have room
unfoldable pub in_room : ℕ → Outline → Answer Outline
in_room l o = accepted (outline o.records o.variables (take l o.rows))

-- ── what the code says ──

-- so many records and variables
abbrev pub sizes : ℕ → ℕ → Planned
sizes n v = record { records = n; variables = v }

-- an answer, by the rows that were filled with it
unfoldable pub said_of : Result Planned Refusal → List ℤ → Answer Outline
said_of (Ok d) t = accepted (outline d.records d.variables (take (8 * d.records) t))
said_of (Err r) t = refused (fault_of r)

-- records that are counted are at most 4,096
unfoldable pub Few : Result Planned Refusal → Type 0
Few (Ok d) = d.records ≤ 4096
Few (Err r) = Unit

-- an answer
unfoldable pub answer_of : Result Planned Refusal → Answer Counts
answer_of (Ok d) = accepted (record { records = d.records; variables = d.variables })
answer_of (Err r) = refused (fault_of r)

-- 12
unfoldable pub counted_by : ℕ → ℕ → ℕ → Result Planned Refusal
counted_by n v root = cond (leb v 1000000) (Ok (sizes n v)) (Err (refusal 12 root))

module _ {A : Type 0} where
  -- 11, or else what comes next
  unfoldable pub addressed_by : Leaves → Result A Refusal → Result A Refusal
  addressed_by (Some p) r = Err (refusal 11 p)
  addressed_by None r = r

  -- 8 to 10, or else what comes next
  unfoldable pub ruled_by : Least → Result A Refusal → Result A Refusal
  ruled_by (Some f) r = Err (refusal f.number f.place)
  ruled_by None r = r

-- 8 to 12, by the least fault, the first segment that leaves the addresses, records, variables and the root's place
unfoldable pub settled_by : Least → Leaves → ℕ → ℕ → ℕ → Result Planned Refusal
settled_by l a n v root = ruled_by l (addressed_by a (counted_by n v root))

-- 13, by the table's length
unfoldable pub put_of : ℕ → ℕ → ℕ → Result Planned Refusal
put_of n v l = cond (leb (8 * n) l) (Ok (sizes n v)) (Err (refusal 13 0))

-- what planning says of an outline, by the table's length
unfoldable pub planned_by : Answer Outline → ℕ → Result Planned Refusal
planned_by (accepted o) l = put_of o.records o.variables l
planned_by (refused f) l = Err (refusal f.number f.place)

-- and what stands in the table afterwards
unfoldable pub after_by : Answer Outline → List ℤ → List ℤ
after_by (accepted o) t = cond (leb (8 * o.records) (length t)) (placed o.rows t) t
after_by (refused f) t = t
