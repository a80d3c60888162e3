use Rattle.maps.proofs.Matching.{relations}
use Rattle.maps.specs.Matches.{match_of}
use Rattle.maps.proofs.is_match.Goals as goal

pub content_of-requires : goal.content_of-requires
content_of-requires c = search relations

pub returns-then-not-child : goal.returns-then-not-child
unfolding match_of
returns-then-not-child c = search relations

pub returns-else-not-child : goal.returns-else-not-child
returns-else-not-child c = search relations
