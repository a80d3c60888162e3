use Rattle.access_kinds.proofs.Deciding.{withholding}
use Rattle.access_causes.proofs.is_withheld.Goals as goal

pub returns-then-setting-eq-FLOAT : goal.returns-then-setting-eq-FLOAT
returns-then-setting-eq-FLOAT c = search withholding

pub returns-then-setting-eq-EVENTID : goal.returns-then-setting-eq-EVENTID
returns-then-setting-eq-EVENTID c = search withholding

pub returns-else-setting-eq-EVENTID : goal.returns-else-setting-eq-EVENTID
returns-else-setting-eq-EVENTID c = search withholding
