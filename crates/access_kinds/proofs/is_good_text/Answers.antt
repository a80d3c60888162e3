use Rattle.access_kinds.proofs.Deciding.{texts}
use Rattle.access_kinds.proofs.is_good_text.Goals as goal
use Rattle.access_kinds.proofs.is_good_text.Goals.{then-not-has_zero, else-not-has_zero}

pub returns-then-is_utf8 : goal.returns-then-is_utf8
returns-then-is_utf8 c = elim c.if-not-has_zero.branch [ then-not-has_zero w ↦ search texts | else-not-has_zero w ↦ cc ]

pub returns-else-is_utf8 : goal.returns-else-is_utf8
returns-else-is_utf8 c = elim c.if-not-has_zero.branch [ then-not-has_zero w ↦ search texts | else-not-has_zero w ↦ search texts ]

pub returns-in-Event : goal.returns-in-Event
returns-in-Event c = search texts
