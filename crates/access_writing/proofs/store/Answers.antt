use native.Mathlib.Omega.{arith}
use Rattle.access_writing.proofs.Storing.{storing, to_inside}
use Rattle.access_writing.proofs.store.Goals as goal

pub overflow_sub-from : goal.overflow_sub-from
overflow_sub-from c = search storing

pub overflow_add-to : goal.overflow_add-to
overflow_add-to c = let a = c.args in
    omega (arith, to_inside a.content.now c.requires a.space a.first a.window.now a.value a.string.now c.is_inside-inside.ensures c.write_cause.ensures c.in-None.is, c.well_formed.1.1.1.1.0)

pub slice_bounds-put-end : goal.slice_bounds-put-end
slice_bounds-put-end c = search storing

pub put-requires : goal.put-requires
put-requires c = search storing

pub returns-in-Some-clause-answer : goal.returns-in-Some-clause-answer
returns-in-Some-clause-answer c = search storing

pub returns-in-Some-clause-after : goal.returns-in-Some-clause-after
returns-in-Some-clause-after c = search storing

pub returns-in-None-clause-answer : goal.returns-in-None-clause-answer
returns-in-None-clause-answer c = search storing

pub returns-in-None-clause-after : goal.returns-in-None-clause-after
returns-in-None-clause-after c = search storing
