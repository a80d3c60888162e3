use Rattle.pieces_characters.proofs.Numbering.{Counting}
use Rattle.pieces_characters.proofs.number_of.Given as goal

abbrev pub invariant-loop-b : goal.invariant-loop-b
invariant-loop-b l = Counting l.hex l.digits l.code l.b-index
