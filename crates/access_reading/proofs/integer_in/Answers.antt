use Rattle.access_reading.proofs.Fetching.{reading_integer}
use Rattle.access_reading.proofs.integer_in.Goals as goal

pub whole_in-negative-requires : goal.whole_in-negative-requires
whole_in-negative-requires c = search reading_integer

pub returns-clause-is : goal.returns-clause-is
returns-clause-is c = search reading_integer

pub returns-clause-at : goal.returns-clause-at
returns-clause-at c = search reading_integer
