use Rattle.locate_ranges.proofs.InRange.{rising}
use Rattle.locate_ranges.proofs.rises.Goals as goal

pub returns : goal.returns
returns c = search rising
