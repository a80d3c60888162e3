-- What the check of a text and a table answers.
use Rattle.std.specs.Prelude.{List, cond, ◌&&◌, ℕ, ◌*◌, leb, ℤ, length, take, Result, Ok, Err}
use Rattle.cdi.specs.Faults.{fault, Answer, accepted, refused, ◌and_then◌}
use Rattle.cdi.specs.Table.{same_table}
use Rattle.refusals.specs.declared.Refusal.{Refusal}
use Rattle.refusals.specs.Refusals.{refusal, fault_of}
use Rattle.plan_stages.specs.declared.Planned.{Planned}
use Rattle.plan_stages.specs.Outlines.{Outline, of_markup}

unfoldable pub checked_of : Result ℕ Refusal → Answer ℕ
checked_of (Ok e) = accepted e
checked_of (Err r) = refused (fault_of r)

-- 20, by the rows that the text describes
unfoldable pub same_rows : List ℤ → Outline → Answer Outline
same_rows t o = cond (same_table t o.rows) (accepted o) (refused (fault 20 0))

-- 4 to 12 and 20 of content: its length, where the table is exactly the one planned from it
unfoldable pub compared_of : List ℕ → List ℤ → Answer ℕ
compared_of c t = of_markup c and_then same_rows t and_then λ o. accepted (length c)

-- the same by what the content is told with and the rows that were filled with it; `end` is the content's length
unfoldable pub compared_by : Result Planned Refusal → List ℤ → List ℤ → ℕ → Result ℕ Refusal
compared_by (Ok d) r t end = cond (leb (8 * d.records) (length r) && same_table t (take (8 * d.records) r)) (Ok end) (Err (refusal 20 0))
compared_by (Err f) r t end = Err f
