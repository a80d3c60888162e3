use Rattle.lines_items.proofs.Putting.{refusal_put}
use Rattle.lines.proofs.put_refusal.Goals as goal

pub returns-clause-put : goal.returns-clause-put
returns-clause-put c =
    refusal_put _ _ _ _ _ _ _ c.put_all-to.ensures.put c.put_number-to.ensures.put c.put_all-to-2.ensures.put c.put_number-to-2.ensures.put c.put_all.ensures.put
