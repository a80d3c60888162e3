use Rattle.tags_faults.proofs.Ruled.{fault_cases}
use Rattle.tags_faults.proofs.fault_of.Goals as goal

pub returns-in-0-to-5 : goal.returns-in-0-to-5
returns-in-0-to-5 c = search fault_cases

pub returns-in_default : goal.returns-in_default
returns-in_default c = search fault_cases
