use Rattle.extent.proofs.Holding.{holding}
use Rattle.extent.proofs.hold.Goals as goal

pub returns-then-span-gt-LAST_ADDRESS : goal.returns-then-span-gt-LAST_ADDRESS
returns-then-span-gt-LAST_ADDRESS c = search holding

pub returns-else-span-gt-LAST_ADDRESS : goal.returns-else-span-gt-LAST_ADDRESS
returns-else-span-gt-LAST_ADDRESS c = search holding
