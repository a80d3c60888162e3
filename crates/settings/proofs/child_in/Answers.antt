use Rattle.settings.proofs.Limiting.{no_child, missing_inside, child_ways}
use Rattle.settings.proofs.child_in.Goals as goal

pub content_of-requires : goal.content_of-requires
content_of-requires c = search child_ways

pub returns-in-From-clause-is : goal.returns-in-From-clause-is
returns-in-From-clause-is c = search child_ways

pub returns-in_default : goal.returns-in_default
returns-in_default c = record { is = no_child c.args.s.now c.args.name.now c.in_default.not-From; inside = missing_inside c.args.s.now }
