use borrow.Author.Rules.{rules}
use Rattle.listing.proofs.Listed.{list_loop, list_needs, list_copying}
use Rattle.listing.proofs.list_known.Goals as goal

pub loop-i-init : goal.loop-i-init
loop-i-init c = search list_loop

pub next_record-next-requires : goal.next_record-next-requires
next_record-next-requires c = search list_needs

pub loop-i-preserved-then-count-left : goal.loop-i-preserved-then-count-left
loop-i-preserved-then-count-left c = search list_loop

pub fill_copies-k-requires : goal.fill_copies-k-requires
fill_copies-k-requires c = (
  search rules,
  search rules,
  list_copying c.loop-i.invariant c.loop-i-test.true c.next_record-next.ensures.0 c.rise_at-count.ensures.0 c.if-count-left.false c.rise_at-origin.ensures.0,
  search rules,
  search list_needs,
)

pub loop-i-preserved : goal.loop-i-preserved
loop-i-preserved c = search list_loop

pub returns-clause-value : goal.returns-clause-value
returns-clause-value c = search list_loop

pub returns-clause-out_after : goal.returns-clause-out_after
returns-clause-out_after c = search list_loop
