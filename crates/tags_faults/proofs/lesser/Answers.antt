use Rattle.tags_faults.proofs.Ruled.{firsts}
use Rattle.tags_faults.proofs.lesser.Goals as goal

pub returns-then-m-eq0 : goal.returns-then-m-eq0
returns-then-m-eq0 c = search firsts

pub returns-then-n-eq0 : goal.returns-then-n-eq0
returns-then-n-eq0 c = search firsts

pub returns-then-rank_of : goal.returns-then-rank_of
returns-then-rank_of c = search firsts

pub returns-else-rank_of : goal.returns-else-rank_of
returns-else-rank_of c = search firsts
