use Rattle.children.proofs.Turning.{passing}
use Rattle.children.proofs.after.Goals as goal

pub behind-requires : goal.behind-requires
behind-requires c = search passing

pub returns-then-child : goal.returns-then-child
returns-then-child c = search passing

pub returns-else-child : goal.returns-else-child
returns-else-child c = search passing
