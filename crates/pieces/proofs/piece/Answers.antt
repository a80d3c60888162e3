use Rattle.pieces.proofs.Cutting.{any_piece}
use Rattle.pieces.proofs.piece.Goals as goal

pub returns-then-begins_at-2 : goal.returns-then-begins_at-2
returns-then-begins_at-2 c = search any_piece

pub text-requires : goal.text-requires
text-requires c = search any_piece

pub returns : goal.returns
returns c = search any_piece
