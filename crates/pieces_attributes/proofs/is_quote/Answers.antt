use Rattle.cdi.specs.Pieces.{is_quote}
use Rattle.scan.proofs.Tests.{tests, calls}
use Rattle.pieces_attributes.proofs.is_quote.Goals as goal

pub returns-then-b-eq34 : goal.returns-then-b-eq34
unfolding is_quote
returns-then-b-eq34 c = search (tests, calls)

pub returns-else-b-eq34 : goal.returns-else-b-eq34
unfolding is_quote
returns-else-b-eq34 c = search (tests, calls)
