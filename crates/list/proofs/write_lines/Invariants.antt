use mathlib.Core.Path.{◌≡◌}
use Prim.Native.Nat.{◌-◌}
use lib.ListN.{length}
use Rattle.list.proofs.write_lines.Given as goal

abbrev pub invariant-loop-n : goal.invariant-loop-n
invariant-loop-n l = (length l.numbers ≡ length l.fn.numbers) × (length l.out ≡ length l.fn.out)

abbrev pub decreases-loop-n : goal.decreases-loop-n
decreases-loop-n l = 1000000 - l.n
