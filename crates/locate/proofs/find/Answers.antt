use borrow.Author.Rules.{rules}
use Rattle.locate.proofs.Segments.{passing, into_segment, segment_site}
use Rattle.locate.proofs.find.Goals as goal

pub loop-i-init : goal.loop-i-init
loop-i-init c = search passing

pub next_record-next-requires : goal.next_record-next-requires
next_record-next-requires c = search into_segment

pub find_in-found-requires : goal.find_in-found-requires
find_in-found-requires c = (search rules, search into_segment, search rules, segment_site c.loop-i.invariant c.loop-i-test.true c.next_record-next.ensures.0 c.rise_at-count.ensures.0 c.if-left-count.true c.rise_at-origin.ensures.0)

pub returns-then-left-count-clause-is : goal.returns-then-left-count-clause-is
returns-then-left-count-clause-is c = search passing

pub loop-i-preserved : goal.loop-i-preserved
loop-i-preserved c = search passing

pub returns-clause-is : goal.returns-clause-is
returns-clause-is c = search passing

pub returns-clause-held : goal.returns-clause-held
returns-clause-held c = search passing
