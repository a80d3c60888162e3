use Rattle.parse_leaves.proofs.Leaves.{plain_there, leaf_tests}
use Rattle.parse_leaves.proofs.plain_leaf.Goals as goal

pub returns-then-is_leaf_good : goal.returns-then-is_leaf_good
returns-then-is_leaf_good c = search (plain_there, leaf_tests)
