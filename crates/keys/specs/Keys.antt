-- A fault as one number.
use Rattle.std.specs.Prelude.{cond, ℕ, ◌+◌, ◌-◌, ◌/◌, ◌%◌, eqb}
use Rattle.std.proofs.Math.Option.{Option, none, some}
use Rattle.cdi.specs.Lists.{between}
use Rattle.cdi.specs.Faults.{Fault, fault}

-- the number of a rank
unfoldable pub number_of : ℕ → ℕ
number_of r = cond (between 8 15 r) (r + 73) (cond (between 16 88 r) (r - 8) r)

-- 128 times its place and the rank of its number; the largest number of 64 bits is none
unfoldable pub fault_in : ℕ → Option Fault
fault_in k = cond (eqb k 0xFFFF_FFFF_FFFF_FFFF) none (some (fault (number_of (k % 128)) (k / 128)))
