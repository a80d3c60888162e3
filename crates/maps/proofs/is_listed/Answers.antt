use Rattle.maps.proofs.Matching.{list_found, list_on, list_none, listings}
use Rattle.maps.proofs.is_listed.Goals as goal

pub after-end-requires : goal.after-end-requires
after-end-requires c = search (listings, c.in-Some.ensures)

pub is_match-requires : goal.is_match-requires
is_match-requires c = search (listings, c.in-Some.ensures)

pub returns-then-is_match : goal.returns-then-is_match
returns-then-is_match c = list_found c.loop-child.invariant c.in-Some.ensures c.is_match.ensures c.after-end.ensures c.if-is_match.true

pub loop-child-preserved : goal.loop-child-preserved
loop-child-preserved c = list_on c.loop-child.invariant c.in-Some.ensures c.is_match.ensures c.after-end.ensures c.if-is_match.false

pub returns : goal.returns
returns c = list_none c.loop-child.invariant c.in_default.ensures
