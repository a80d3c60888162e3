use Rattle.judges_content.proofs.Between.{saids}
use Rattle.judges_content.proofs.said_with.Goals as goal

pub returns-then-said-eq0 : goal.returns-then-said-eq0
returns-then-said-eq0 c = search saids

pub returns-else-said-eq0 : goal.returns-else-said-eq0
returns-else-said-eq0 c = search saids
