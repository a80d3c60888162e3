use borrow.Author.Rules.{rules}
use Rattle.settings_bounds.proofs.Bounding.{below_by}
use Rattle.settings_bounds.proofs.is_below_zero.Goals as goal

pub returns : goal.returns
returns c = below_by c.args.number c.is_some_and.ensures (λ n q. search rules)
