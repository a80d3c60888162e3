use Rattle.std.proofs.Common.{rules}
use Rattle.scan.specs.Spans.{of_class}
use Rattle.scan.specs.declared.Class.TheVariants.{Value}
use Rattle.spans.proofs.value_rest.Goals as goal

pub returns : goal.returns
unfolding of_class
returns c = c.span_while.ensures (of_class (Value c.args.quote)) (λ b r told. search rules)
