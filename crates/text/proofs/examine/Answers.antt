use Rattle.text.proofs.Ends.{examining}
use Rattle.text.proofs.examine.Goals as goal

pub zero_behind-end-requires : goal.zero_behind-end-requires
zero_behind-end-requires c = search examining

pub returns-clause-end : goal.returns-clause-end
returns-clause-end c = search examining

pub returns-clause-run : goal.returns-clause-run
returns-clause-run c = search examining
