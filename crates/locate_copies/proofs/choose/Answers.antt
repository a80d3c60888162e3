use Rattle.locate_copies.proofs.Dividing.{choosing}
use Rattle.locate_copies.proofs.choose.Goals as goal

pub natural_at-requires : goal.natural_at-requires
natural_at-requires c = search choosing

pub each-variables-requires : goal.each-variables-requires
each-variables-requires c = search choosing

pub copy_at-requires : goal.copy_at-requires
copy_at-requires c = search choosing

pub returns-then-natural_at-eq1 : goal.returns-then-natural_at-eq1
returns-then-natural_at-eq1 c = search choosing

pub returns : goal.returns
returns c = search choosing
