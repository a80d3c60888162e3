use Rattle.scan.proofs.Tests.{tests, calls}
use Rattle.cdi.specs.Text.{allowed}
use Rattle.text_characters.proofs.Characters.{ands}
use Rattle.text.proofs.is_allowed.Goals as goal

pub returns-then-is_char : goal.returns-then-is_char
unfolding allowed
returns-then-is_char c = search (ands, tests, calls)

pub returns-else-is_char : goal.returns-else-is_char
unfolding allowed
returns-else-is_char c = search (ands, tests, calls)
