use Rattle.judges_content.proofs.Telling.{saying}
use Rattle.judges_content.proofs.told.Goals as goal

pub returns-in_default : goal.returns-in_default
returns-in_default c = search saying

pub returns-then-beyond : goal.returns-then-beyond
returns-then-beyond c = search saying

pub returns-then-n : goal.returns-then-n
returns-then-n c = search saying

pub returns-else-n : goal.returns-else-n
returns-else-n c = search saying
