use Rattle.formatting.proofs.Formats.{tail, no_format, plain_format, point_format}
use Rattle.formatting.proofs.is_formatting.Goals as goal

pub returns-in_default : goal.returns-in_default
returns-in_default c = no_format _ c.in_default.ensures.cases

pub returns-then-same : goal.returns-then-same
returns-then-same c = plain_format _ c.in-Some.ensures.cases.0 c.in-Some.ensures.cases.1 (tail _ _ c.span-end.ensures c.same.ensures) c.if-same.true

pub returns-else-same : goal.returns-else-same
returns-else-same c = point_format _ c.in-Some.ensures.cases.0 c.in-Some.ensures.cases.1 (tail _ _ c.span-end.ensures c.same.ensures) c.if-same.false c.span-end.ensures c.is_fraction.ensures
