use Rattle.values.proofs.Complements.{complementing}
use Rattle.values.proofs.complement_of.Goals as goal

pub returns-then-not-whole : goal.returns-then-not-whole
returns-then-not-whole c = search complementing

pub returns-then-whole-eq0 : goal.returns-then-whole-eq0
returns-then-whole-eq0 c = search complementing

pub returns-else-whole-eq0 : goal.returns-else-whole-eq0
returns-else-whole-eq0 c = search complementing
