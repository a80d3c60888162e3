use Rattle.access.proofs.Accessing.{checking_first, checked_exact}
use Rattle.access.proofs.read.Goals as goal

pub returns-in_err-end-clause-is : goal.returns-in_err-end-clause-is
returns-in_err-end-clause-is c = search checking_first

pub returns-in_err-end-clause-at : goal.returns-in_err-end-clause-at
returns-in_err-end-clause-at c = search checking_first

pub read_known-requires : goal.read_known-requires
read_known-requires c = checked_exact c.args.text.now c.args.table.now c.check.ensures c.in_ok-end.was
