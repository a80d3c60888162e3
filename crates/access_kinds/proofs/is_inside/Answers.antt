use Rattle.std.proofs.Common.{arith}
use Rattle.access_kinds.proofs.Deciding.{insides}
use Rattle.access_kinds.proofs.is_inside.Goals as goal
use Rattle.access_kinds.proofs.is_inside.Goals.{then-space-setting, else-space-setting}

pub returns-then-before-length : goal.returns-then-before-length
returns-then-before-length c = elim c.if-space-setting.branch [ then-space-setting w ↦ search insides | else-space-setting w ↦ grind arith ]

pub returns-else-before-length : goal.returns-else-before-length
returns-else-before-length c = elim c.if-space-setting.branch [ then-space-setting w ↦ search insides | else-space-setting w ↦ search insides ]

pub returns-in-None : goal.returns-in-None
returns-in-None c = search insides
