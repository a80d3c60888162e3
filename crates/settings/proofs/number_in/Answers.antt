use Rattle.settings.proofs.Limiting.{no_number, limiting}
use Rattle.settings.proofs.number_in.Goals as goal

pub own_number-requires : goal.own_number-requires
own_number-requires c = search limiting

pub returns-in-From : goal.returns-in-From
returns-in-From c = search limiting

pub returns-in_default : goal.returns-in_default
returns-in_default c = no_number c.args.s.now c.in_default.not-From
