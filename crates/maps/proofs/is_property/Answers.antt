use Rattle.maps.proofs.Matching.{property_ways}
use Rattle.maps.proofs.is_property.Goals as goal

pub is_content-requires : goal.is_content-requires
is_content-requires c = search property_ways

pub returns-in-Missing : goal.returns-in-Missing
returns-in-Missing c = search property_ways

pub returns-in-Empty : goal.returns-in-Empty
returns-in-Empty c = search property_ways

pub returns-in-From : goal.returns-in-From
returns-in-From c = search property_ways
