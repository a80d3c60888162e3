use Rattle.settings_admission.proofs.Admitting.{admitting}
use Rattle.settings_admission.proofs.is_admitted.Goals as goal

pub is_listed-requires : goal.is_listed-requires
is_listed-requires c = search admitting

pub returns-in-Missing : goal.returns-in-Missing
returns-in-Missing c = search admitting

pub returns-in-Empty : goal.returns-in-Empty
returns-in-Empty c = search admitting

pub returns-in-From : goal.returns-in-From
returns-in-From c = search admitting
