use Rattle.spans.proofs.Standing.{standing}
use Rattle.spans.proofs.is_at.Goals as goal

pub returns-then-at-s : goal.returns-then-at-s
returns-then-at-s c = search standing

pub returns-else-at-s : goal.returns-else-at-s
returns-else-at-s c = search standing
