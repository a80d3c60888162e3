use Rattle.cdi.specs.Text.{mark}
use Rattle.text.proofs.Checks.{mark_test}
use Rattle.text.proofs.is_marked.Goals as goal

pub returns-then-byte_at-eq239 : goal.returns-then-byte_at-eq239
unfolding mark
returns-then-byte_at-eq239 c = search mark_test

pub returns-else-byte_at-eq239 : goal.returns-else-byte_at-eq239
unfolding mark
returns-else-byte_at-eq239 c = search mark_test
