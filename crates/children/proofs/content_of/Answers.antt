use Rattle.children.proofs.Turning.{child_stands, not_there, asking}
use Rattle.children.proofs.content_of.Goals as goal

pub is_named-requires : goal.is_named-requires
is_named-requires c = child_stands c.in-Some.ensures

pub returns-then-is_named : goal.returns-then-is_named
returns-then-is_named c = search (asking, c.in-Some.ensures)

pub after-i-requires : goal.after-i-requires
after-i-requires c = search (asking, c.in-Some.ensures)

pub loop-child-preserved : goal.loop-child-preserved
loop-child-preserved c = search (asking, c.in-Some.ensures)

pub returns : goal.returns
returns c = not_there c.loop-child.invariant c.in_default.ensures
