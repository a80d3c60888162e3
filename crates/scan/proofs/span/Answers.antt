use Rattle.std.proofs.Common.{rules}
use Rattle.scan.specs.Spans.{of_class}
use Rattle.scan.proofs.span.Goals as goal

pub returns : goal.returns
returns c = c.span_while.ensures (of_class c.args.class) (λ b r told. search rules)
