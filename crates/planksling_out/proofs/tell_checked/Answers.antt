use borrow.Author.Rules.{rules}
use Rattle.access_checked.specs.Told.{checked_of}
use Rattle.outcomes.specs.Outcomes.{number_in, place_after, value_after}
use Rattle.outcomes.proofs.Telling.{number_by_law, place_by, value_by}
use Rattle.planksling_out.proofs.tell_checked.Goals as goal

pub returns-in-Ok-clause-value : goal.returns-in-Ok-clause-value
unfolding number_in place_after value_after checked_of
returns-in-Ok-clause-value c = search (number_by_law checked_of, rules)

pub returns-in-Ok-clause-end_after : goal.returns-in-Ok-clause-end_after
unfolding number_in place_after value_after checked_of
returns-in-Ok-clause-end_after c = search (value_by checked_of, rules)

pub returns-in-Ok-clause-place_after : goal.returns-in-Ok-clause-place_after
unfolding number_in place_after value_after checked_of
returns-in-Ok-clause-place_after c = search (place_by checked_of, rules)

pub returns-in-Err-clause-value : goal.returns-in-Err-clause-value
unfolding number_in place_after value_after checked_of
returns-in-Err-clause-value c = search (number_by_law checked_of, rules)

pub returns-in-Err-clause-end_after : goal.returns-in-Err-clause-end_after
unfolding number_in place_after value_after checked_of
returns-in-Err-clause-end_after c = search (value_by checked_of, rules)

pub returns-in-Err-clause-place_after : goal.returns-in-Err-clause-place_after
unfolding number_in place_after value_after checked_of
returns-in-Err-clause-place_after c = search (place_by checked_of, rules)
