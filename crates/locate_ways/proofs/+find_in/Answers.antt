use Rattle.std.proofs.Common.{rules}
use Rattle.locate_ways.proofs.Ways.{seeking, stepping, chosen, chosen_site, variable_is}
use Rattle.locate_ways.proofs.+find_in.Goals as goal

pub loop-i-init : goal.loop-i-init
loop-i-init t c = search seeking

pub natural_at-count-requires : goal.natural_at-count-requires
natural_at-count-requires t c = search stepping

pub moved_by-start-requires : goal.moved_by-start-requires
moved_by-start-requires t c = search stepping

pub choose-copy-requires : goal.choose-copy-requires
choose-copy-requires t c = (search rules, chosen c.loop-i.invariant c.loop-i-test.true c.natural_at-count.ensures.0 c.if-left-count.true c.moved_by-start.ensures c.rise_at-kind.ensures.0 c.if-kind-eq-GROUP.true)

pub next_record-next-requires : goal.next_record-next-requires
next_record-next-requires t c = search stepping

pub find_in-requires : goal.find_in-requires
find_in-requires t c = (
  search rules,
  (search rules, search rules, search rules, chosen_site c.loop-i.invariant c.loop-i-test.true c.natural_at-count.ensures.0 c.if-left-count.true c.moved_by-start.ensures c.rise_at-kind.ensures.0 c.if-kind-eq-GROUP.true c.choose-copy.ensures c.next_record-next.ensures.0),
)

pub returns-then-kind-eq-GROUP : goal.returns-then-kind-eq-GROUP
returns-then-kind-eq-GROUP t c = search seeking

pub packed-requires : goal.packed-requires
packed-requires t c = search stepping

pub returns-then-left-count : goal.returns-then-left-count
returns-then-left-count t c =
    variable_is c.loop-i.invariant c.loop-i-test.true c.natural_at-count.ensures.0 c.if-left-count.true c.moved_by-start.ensures c.rise_at-kind.ensures.0 c.if-kind-eq-GROUP.false (search rules) (search rules) c.packed.ensures

pub moved_by-address-requires : goal.moved_by-address-requires
moved_by-address-requires t c = search stepping

pub next_record-i-requires : goal.next_record-i-requires
next_record-i-requires t c = search stepping

pub loop-i-preserved : goal.loop-i-preserved
loop-i-preserved t c = search seeking

pub returns : goal.returns
returns t c = search seeking
