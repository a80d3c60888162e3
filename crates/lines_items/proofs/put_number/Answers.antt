use lib.ListN.{take}
use native.Mathlib.Omega.{arith}
use Rattle.lines_items.proofs.Putting.{number_put}
use Rattle.lines_items.proofs.put_number.Goals as goal

pub returns-clause-put : goal.returns-clause-put
returns-clause-put c =
    let f = c.decimal-k.ensures in
    number_put _ (take c.args.at c.args.out.now) c.decimal-k.new.out c.decimal-k.result c.args.n (omega arith) f.len c.put_all.ensures.put f.digits
