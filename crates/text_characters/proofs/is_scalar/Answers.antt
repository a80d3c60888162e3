use Rattle.scan.proofs.Tests.{tests, calls}
use Rattle.cdi.specs.Text.{scalar}
use Rattle.text_characters.proofs.is_scalar.Goals as goal

pub returns-then-c-lt55296 : goal.returns-then-c-lt55296
unfolding scalar
returns-then-c-lt55296 c = search (tests, calls)

pub returns-else-c-lt55296 : goal.returns-else-c-lt55296
unfolding scalar
returns-else-c-lt55296 c = search (tests, calls)
