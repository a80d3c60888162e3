use Rattle.std.proofs.Common.{◌∙◌}
use Rattle.locate_plan.proofs.Testing.{entering, testing, members_bad, element_bad, members_small, onward}
use Rattle.locate_plan.proofs.+items.Goals as goal

pub loop-i-init : goal.loop-i-init
loop-i-init t c = search testing

pub returns-then-depth-gt-DEEPEST : goal.returns-then-depth-gt-DEEPEST
returns-then-depth-gt-DEEPEST t c = search testing

pub returns-then-not-item_fits : goal.returns-then-not-item_fits
returns-then-not-item_fits t c = search testing

pub returns-in_err-members : goal.returns-in_err-members
returns-in_err-members t c = c.from_residual.ensures ∙ members_bad c.loop-i.invariant c.loop-i-test.true c.if-depth-gt-DEEPEST.false c.item_fits.ensures c.if-not-item_fits.false c.next_record-next.ensures.0 c.items.ensures c.in_err-members.was

pub added-requires : goal.added-requires
added-requires t c = (search entering, search entering, search entering, members_small c.loop-i.invariant c.loop-i-test.true c.if-depth-gt-DEEPEST.false c.item_fits.ensures c.if-not-item_fits.false c.next_record-next.ensures.0 c.items.ensures c.in_ok-members.was, search entering)

pub returns-in_err-before : goal.returns-in_err-before
returns-in_err-before t c = c.from_residual-in_err-before.ensures ∙ element_bad c.loop-i.invariant c.loop-i-test.true c.if-depth-gt-DEEPEST.false c.item_fits.ensures c.if-not-item_fits.false c.next_record-next.ensures.0 c.items.ensures c.in_ok-members.was c.added.ensures c.in_err-before.was

pub loop-i-preserved : goal.loop-i-preserved
loop-i-preserved t c = onward c.loop-i.invariant c.loop-i-test.true c.if-depth-gt-DEEPEST.false c.item_fits.ensures c.if-not-item_fits.false c.next_record-next.ensures.0 c.items.ensures c.in_ok-members.was c.added.ensures c.in_ok-before.was

pub returns : goal.returns
returns t c = search testing

pub next_record-next-requires : goal.next_record-next-requires
next_record-next-requires t c = search entering
