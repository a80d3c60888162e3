use Rattle.cdi.specs.Pieces.{value_byte}
use Rattle.scan.proofs.Spans.{Spanning}
use Rattle.spans.proofs.Valued.{Seeing}
use Rattle.spans.proofs.value_end.Given as goal

abbrev pub invariant-loop-i : goal.invariant-loop-i
invariant-loop-i l = Spanning (value_byte l.quote) l.s l.at l.i × Seeing (value_byte l.quote) l.s l.at l.i l.refers
