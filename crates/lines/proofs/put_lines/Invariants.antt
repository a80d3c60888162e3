use mathlib.Core.Path.{◌≡◌}
use Prim.Native.Nat.{◌*◌, ◌≤◌}
use lib.ListN.{length}
use Rattle.lines.proofs.Listing.{Lined}
use Rattle.lines.proofs.put_lines.Given as goal

abbrev pub invariant-loop-i : goal.invariant-loop-i
invariant-loop-i l = (l.at ≤ l.i * 92) × (l.i ≤ l.count) × (length l.out ≡ length l.fn.out) × (Lined l.out l.first l.numbers l.count l.at l.i)
