use mathlib.Core.Path.{◌∙◌}
use native.Mathlib.Omega.{arith}
use Rattle.cdi.specs.Walk.{walk}
use Rattle.cdi.specs.Plans.{segments_of}
use Rattle.list_lines.proofs.Batching.{batch_lines, few}
use Rattle.list_lines.proofs.lines_from.Goals as goal

pub put_lines-size-requires : goal.put_lines-size-requires
put_lines-size-requires c =
    let f = few (walk (segments_of c.args.table.now)) c.args.n c.args.numbers.now c.list_known-count.result c.list_known-count.ensures.value in
    (omega (arith, f), omega (arith, f), omega (arith, f))

pub returns-clause-put : goal.returns-clause-put
returns-clause-put c =
    let lined =
    batch_lines (walk (segments_of c.args.table.now)) c.args.n c.args.numbers.now _ c.list_known-count.result c.list_known-count.ensures.value
    c.list_known-count.ensures.out_after in
    c.put_lines-size.ensures.put ∙ lined

pub returns-clause-ends : goal.returns-clause-ends
returns-clause-ends c =
    let f = few (walk (segments_of c.args.table.now)) c.args.n c.args.numbers.now c.list_known-count.result c.list_known-count.ensures.value in
    (omega (arith, f), omega (arith, f))
