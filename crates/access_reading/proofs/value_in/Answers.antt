use Rattle.access_reading.proofs.Fetching.{reading_value}
use Rattle.access_reading.proofs.value_in.Goals as goal

pub event_in-requires : goal.event_in-requires
event_in-requires c = search reading_value
