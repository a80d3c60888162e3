use Rattle.std.proofs.Common.{rules}
use Rattle.locate.specs.Answers.{told_of}
use Rattle.outcomes.specs.Outcomes.{number_in, value_after}
use Rattle.outcomes.proofs.Telling.{number_by_law, value_by}
use Rattle.planksling_out.proofs.tell_located.Goals as goal

pub returns-in-Ok : goal.returns-in-Ok
unfolding number_in value_after told_of
returns-in-Ok c = record {
  value = search (number_by_law told_of, rules);
  record_number_after = search (value_by told_of, rules);
  space_after = search (value_by told_of, rules);
  address_after = search (value_by told_of, rules);
  size_after = search (value_by told_of, rules);
  kind_after = search (value_by told_of, rules);
}

pub returns-in-Err-NotAPlan : goal.returns-in-Err-NotAPlan
unfolding number_in value_after told_of
returns-in-Err-NotAPlan c = record {
  value = search (number_by_law told_of, rules);
  record_number_after = search (value_by told_of, rules);
  space_after = search (value_by told_of, rules);
  address_after = search (value_by told_of, rules);
  size_after = search (value_by told_of, rules);
  kind_after = search (value_by told_of, rules);
}

pub returns-in-Err-NoVariable : goal.returns-in-Err-NoVariable
unfolding number_in value_after told_of
returns-in-Err-NoVariable c = record {
  value = search (number_by_law told_of, rules);
  record_number_after = search (value_by told_of, rules);
  space_after = search (value_by told_of, rules);
  address_after = search (value_by told_of, rules);
  size_after = search (value_by told_of, rules);
  kind_after = search (value_by told_of, rules);
}
