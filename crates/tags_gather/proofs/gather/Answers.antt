use Rattle.tags_gather.proofs.Gathering.{one_step, gathering}
use Prim.Native.Nat.{◌-◌}
use Rattle.tags_gather.proofs.gather.Goals as goal

pub loop-i-init : goal.loop-i-init
loop-i-init c = search gathering

pub returns-then-end-i-clause-closes : goal.returns-then-end-i-clause-closes
returns-then-end-i-clause-closes c = search gathering

pub returns-then-end-i-clause-gathers : goal.returns-then-end-i-clause-gathers
returns-then-end-i-clause-gathers c = search gathering

pub is_among-known-requires : goal.is_among-known-requires
is_among-known-requires c = search gathering

pub was_met-again-requires : goal.was_met-again-requires
was_met-again-requires c = search gathering

pub note-requires : goal.note-requires
note-requires c = search gathering

pub loop-i-preserved : goal.loop-i-preserved
loop-i-preserved c =
    one_step c.loop-i.invariant c.next_spot-a.result c.next_spot-a.ensures.next c.next_spot-a.ensures.tells c.if-end-i.false c.known_to-set.ensures
    c.is_among-known.ensures c.was_met-again.ensures c.exact_with-exact.ensures.value c.exact_with-exact.ensures.bounds c.note.ensures.code c.note.ensures.amount
