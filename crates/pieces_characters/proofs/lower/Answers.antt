use Rattle.scan.proofs.Tests.{tests}
use Rattle.cdi.specs.Lists.{between}
use Rattle.cdi.specs.Pieces.{lower}
use Rattle.pieces_characters.proofs.lower.Goals as goal

pub returns-in-65-to-90 : goal.returns-in-65-to-90
unfolding lower between
returns-in-65-to-90 c = search tests

pub returns-in_default : goal.returns-in_default
unfolding lower between
returns-in_default c = search tests

pub returns-in_default-2 : goal.returns-in_default-2
unfolding lower between
returns-in_default-2 c = search tests
