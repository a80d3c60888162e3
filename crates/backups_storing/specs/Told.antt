-- What the answer of storing means, and what one step of it leaves.
use Rattle.std.specs.Prelude.{List, ◌++◌, ℕ, ◌+◌, ◌*◌, take, drop, Result, Ok, Err}
use Rattle.cdi.specs.Faults.{Answer, accepted, refused}
use Rattle.blocks.specs.Blocks.{block}
use Rattle.blocks.specs.Backups.{last_flag}
use Rattle.refusals.specs.Refusals.{fault_of}
use Rattle.refusals.specs.declared.Refusal.{Refusal}

unfoldable pub stored_of : Result ℕ Refusal → Answer ℕ
stored_of (Ok n) = accepted n
stored_of (Err r) = refused (fault_of r)

-- the output with one block filled
unfoldable pub with_block : ℕ → ℕ → ℕ → List ℕ → List ℕ → List ℕ
with_block position behind sp s out =
    take (512 * position) out
    ++ (block position sp (last_flag behind) (take 502 (drop (502 * position) s)) ++ drop (512 * position + 512) out)
