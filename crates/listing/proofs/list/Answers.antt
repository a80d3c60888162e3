use Rattle.listing.proofs.Asked.{asking}
use Rattle.listing.proofs.list.Goals as goal

pub list_known-requires : goal.list_known-requires
list_known-requires c = search asking

pub returns-then-not-is_plan : goal.returns-then-not-is_plan
returns-then-not-is_plan c = search asking

pub returns : goal.returns
returns c = search asking
