use Rattle.std.proofs.Common.{refl}
use Rattle.children.proofs.PiecesIterator.next.Goals as goal

pub returns-then-place-self-clause-steps : goal.returns-then-place-self-clause-steps
returns-then-place-self-clause-steps c = record { place = refl; stands = c.piece_at-cut.ensures; content = refl; at = refl }
