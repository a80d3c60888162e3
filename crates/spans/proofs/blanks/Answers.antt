use Rattle.std.proofs.Common.{rules}
use Rattle.cdi.specs.Pieces.{blank}
use Rattle.spans.proofs.blanks.Goals as goal

pub returns : goal.returns
returns c = c.span_while.ensures blank (λ b r told. search rules)
