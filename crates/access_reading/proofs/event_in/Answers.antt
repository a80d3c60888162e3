use Rattle.access_reading.proofs.Fetching.{reading_event}
use Rattle.access_reading.proofs.event_in.Goals as goal

pub number_in-id-requires : goal.number_in-id-requires
number_in-id-requires c = search reading_event

pub returns-clause-is : goal.returns-clause-is
returns-clause-is c = search reading_event

pub returns-clause-at : goal.returns-clause-at
returns-clause-at c = search reading_event
