use native.Mathlib.Omega.{arith}
use Rattle.lines.proofs.Listing.{lining, lined_next}
use Rattle.lines.proofs.put_lines.Goals as goal

pub loop-i-preserved : goal.loop-i-preserved
loop-i-preserved c =
    (omega arith, omega arith, omega arith, lined_next c.loop-i.invariant.3 (omega arith) _ _ c.put_line-at.ensures.put)

pub returns-clause-put : goal.returns-clause-put
returns-clause-put c = search lining
