use Rattle.extent.proofs.Holding.{fitting}
use Rattle.extent.proofs.fits.Goals as goal

pub returns-then-stretch-origin : goal.returns-then-stretch-origin
returns-then-stretch-origin c = search fitting

pub returns-else-stretch-origin : goal.returns-else-stretch-origin
returns-else-stretch-origin c = search fitting
