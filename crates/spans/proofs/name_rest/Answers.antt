use Rattle.std.proofs.Common.{rules}
use Rattle.scan.specs.Spans.{of_class}
use Rattle.scan.specs.declared.Class.TheVariants.{Name}
use Rattle.spans.proofs.name_rest.Goals as goal

pub returns : goal.returns
unfolding of_class
returns c = c.span_while.ensures (of_class Name) (λ b r told. search rules)
