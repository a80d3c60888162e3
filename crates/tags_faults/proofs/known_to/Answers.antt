use Rattle.tags_faults.specs.Told.{known_sets}
use Rattle.tags_faults.proofs.Ruled.{known_sets_law}
use Rattle.tags_faults.proofs.known_to.Goals as goal

pub returns-then-element-lt12 : goal.returns-then-element-lt12
unfolding known_sets
returns-then-element-lt12 c = search known_sets_law

pub returns-else-element-lt12 : goal.returns-else-element-lt12
returns-else-element-lt12 c = search known_sets_law
