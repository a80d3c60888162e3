use Rattle.std.proofs.Common.{length}
use Rattle.values.proofs.Letters.{Padded}
use Rattle.values.proofs.put_text.Given as goal

abbrev pub invariant-loop-i : goal.invariant-loop-i
invariant-loop-i l = Padded (length l.fn.part) l.text l.part l.i
