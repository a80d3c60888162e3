use Rattle.timed.proofs.Ended.{content_places}
use Rattle.timed.proofs.timed_characters.Goals as goal

pub returns : goal.returns
returns c = search content_places
