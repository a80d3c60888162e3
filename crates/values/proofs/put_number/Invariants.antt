use Rattle.std.proofs.Common.{length}
use Rattle.values.proofs.Numbering.{Stored}
use Rattle.values.proofs.put_number.Given as goal

abbrev pub invariant-loop-i : goal.invariant-loop-i
invariant-loop-i l = Stored (length l.fn.part) l.number l.part l.left l.i
