use Rattle.tags_wrong.proofs.Finding.{seeking, passed}
use Rattle.std.proofs.Common.{rules}
use Rattle.tags_wrong.proofs.first_wrong.Goals as goal

pub is_among-requires : goal.is_among-requires
is_among-requires c = search seeking

pub bounds-codes-from : goal.bounds-codes-from
bounds-codes-from c = search seeking

pub returns-then-fault-ne0 : goal.returns-then-fault-ne0
returns-then-fault-ne0 c = search seeking

pub loop-a-preserved : goal.loop-a-preserved
loop-a-preserved c = passed c.loop-a.invariant c.in-Some.ensures.0 c.in-Some.ensures.1 c.attribute_number-n.ensures c.from.ensures c.is_among.ensures c.fault_at-fault.ensures.value (search rules)

pub returns : goal.returns
returns c = search seeking
