use Rattle.access.proofs.Accessing.{accessing}
use Rattle.access.proofs.write_known.Goals as goal

pub returns-in-Err-clause-answer : goal.returns-in-Err-clause-answer
returns-in-Err-clause-answer c = search accessing

pub returns-in-Err-clause-after : goal.returns-in-Err-clause-after
returns-in-Err-clause-after c = search accessing

pub slice_bounds-store-end : goal.slice_bounds-store-end
slice_bounds-store-end c = search accessing

pub store-requires : goal.store-requires
store-requires c = search accessing

pub returns-in-Ok-clause-answer : goal.returns-in-Ok-clause-answer
returns-in-Ok-clause-answer c = search accessing

pub returns-in-Ok-clause-after : goal.returns-in-Ok-clause-after
returns-in-Ok-clause-after c = search accessing
