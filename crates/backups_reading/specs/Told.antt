-- What the answer of reading means, and what one step of it leaves.
use Rattle.std.specs.Prelude.{List, ◌++◌, ℕ, ◌+◌, ◌-◌, ◌*◌, min, length, take, drop, Result, Ok, Err}
use Rattle.cdi.specs.Faults.{Answer, accepted, refused}
use Rattle.blocks.specs.Backups.{Restored}
use Rattle.backups_reading.specs.declared.Read.{Read}
use Rattle.refusals.specs.Refusals.{fault_of}
use Rattle.refusals.specs.declared.Refusal.{Refusal}

unfoldable pub read_of : Result Read Refusal → Answer Restored
read_of (Ok r) = accepted (record { size = r.size; space = r.space })
read_of (Err r) = refused (fault_of r)

-- the output with one payload in its place
unfoldable pub with_payload : ℕ → List ℕ → List ℕ → List ℕ
with_payload position b out =
    let n = min 502 (length out - 502 * position) in
    take (502 * position) out ++ (take n (drop (512 * position + 8) b) ++ drop (502 * position + n) out)
