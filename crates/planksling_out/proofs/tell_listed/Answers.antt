use Rattle.std.proofs.Common.{rules}
use Rattle.listing.specs.Told.{listing_of}
use Rattle.outcomes.specs.Outcomes.{number_in, value_after}
use Rattle.outcomes.proofs.Telling.{number_by_law, value_by}
use Rattle.planksling_out.proofs.tell_listed.Goals as goal

pub returns-in-Some : goal.returns-in-Some
unfolding number_in value_after listing_of
returns-in-Some c = record {
  value = search (number_by_law listing_of, rules);
  count_after = search (value_by listing_of, rules);
}

pub returns-in-None : goal.returns-in-None
unfolding number_in value_after listing_of
returns-in-None c = record {
  value = search (number_by_law listing_of, rules);
  count_after = search (value_by listing_of, rules);
}
