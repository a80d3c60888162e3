use Rattle.text.proofs.Checks.{content_check}
use Rattle.text.proofs.bad_behind.Goals as goal

pub returns-then-is_marked : goal.returns-then-is_marked
returns-then-is_marked c = search content_check

pub returns : goal.returns
returns c = search content_check
