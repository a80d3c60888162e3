use native.Mathlib.Omega.{arith}
use Rattle.access_reading.proofs.Fetching.{reading_text, zero_inside}
use Rattle.access_reading.proofs.text_in.Goals as goal

pub returns-in_default-clause-is : goal.returns-in_default-clause-is
returns-in_default-clause-is c = search reading_text

pub returns-in_default-clause-at : goal.returns-in_default-clause-at
returns-in_default-clause-at c = search reading_text

pub overflow_add-behind : goal.overflow_add-behind
overflow_add-behind c = let a = c.args in
    omega (arith, zero_inside a.content.now a.setting a.inside a.window.now a.from a.to c.requires.1 _ c.first_zero.ensures c.requires.3 c.in-Some.is)

pub slice_bounds-text-end : goal.slice_bounds-text-end
slice_bounds-text-end c = search reading_text

pub returns-then-not-is_utf8-clause-is : goal.returns-then-not-is_utf8-clause-is
returns-then-not-is_utf8-clause-is c = search reading_text

pub returns-then-not-is_utf8-clause-at : goal.returns-then-not-is_utf8-clause-at
returns-then-not-is_utf8-clause-at c = search reading_text

pub returns-clause-is : goal.returns-clause-is
returns-clause-is c = search reading_text

pub returns-clause-at : goal.returns-clause-at
returns-clause-at c = search reading_text
