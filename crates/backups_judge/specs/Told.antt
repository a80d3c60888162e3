-- What the judge's answers mean.
use Rattle.std.specs.Prelude.{List, Bool, ◌&&◌, ℕ, drop, eqb, Result, Ok, Err}
use Rattle.std.proofs.Math.Option.{Option, none, some}
use Rattle.cdi.specs.Lists.{all}
use Rattle.cdi.specs.Faults.{Fault, Answer, stage}
use Rattle.blocks.specs.Blocks.{flag, area}
use Rattle.blocks.specs.Backups.{last_flag}
use Rattle.refusals.specs.Refusals.{fault_of}
use Rattle.refusals.specs.declared.Refusal.{Refusal}

unfoldable pub bad_of : Result Unit Refusal → Option Fault
bad_of (Ok u) = none
bad_of (Err r) = some (fault_of r)

-- of one block
unfoldable pub judged_of : Result Unit Refusal → Answer Unit
judged_of r = stage (bad_of r) tt

-- the flag and the padding of a block, of which so many bytes are used
unfoldable pub is_end_good : ℕ → ℕ → List ℕ → Bool
is_end_good behind n b = eqb (flag b) (last_flag behind) && all (eqb 0) (drop n (area b))
