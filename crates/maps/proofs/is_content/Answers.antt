use Rattle.maps.proofs.Matching.{contents}
use Rattle.maps.proofs.is_content.Goals as goal

pub returns-in-Text : goal.returns-in-Text
returns-in-Text c = search contents

pub returns-in-Event : goal.returns-in-Event
returns-in-Event c = search contents

pub returns-in-Some : goal.returns-in-Some
returns-in-Some c = search contents

pub returns-in-None : goal.returns-in-None
returns-in-None c = search contents
