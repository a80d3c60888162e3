use native.Mathlib.Omega.{arith}
use Rattle.access_reading.proofs.Fetching.{fetching, fetch_high}
use Rattle.access_reading.proofs.fetch.Goals as goal

pub overflow_sub-from : goal.overflow_sub-from
overflow_sub-from c = search fetching

pub overflow_add-to : goal.overflow_add-to
overflow_add-to c = let a = c.args in
    omega (arith, fetch_high a.content.now a.setting a.space a.first a.window.now c.is_inside-inside.ensures c.read_cause.ensures c.in-None.is, c.well_formed.1.1.1.1.0)

pub value_in-requires : goal.value_in-requires
value_in-requires c = search fetching

pub returns-in-Some-clause-is : goal.returns-in-Some-clause-is
returns-in-Some-clause-is c = search fetching

pub returns-in-Some-clause-at : goal.returns-in-Some-clause-at
returns-in-Some-clause-at c = search fetching

pub returns-in-None-clause-is : goal.returns-in-None-clause-is
returns-in-None-clause-is c = search fetching
