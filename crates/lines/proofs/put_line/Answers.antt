use Rattle.lines_items.proofs.Putting.{line_put}
use Rattle.lines.proofs.put_line.Goals as goal

pub returns-clause-put : goal.returns-clause-put
returns-clause-put c =
    line_put _ _ _ _ _ _ _ _ _ _ _ _ c.put_number-to.ensures.put c.put_next-to.ensures.put c.put_next-to-2.ensures.put c.put_next-to-3.ensures.put
    c.put_kind-to.ensures.put c.put_all.ensures.put
