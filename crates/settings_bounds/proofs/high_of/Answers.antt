use borrow.Author.Rules.{rules}
use Rattle.settings_bounds.proofs.Bounding.{high_by}
use Rattle.settings_bounds.proofs.high_of.Goals as goal

pub returns : goal.returns
returns c = high_by c.args.size c.args.min c.args.max c.unwrap_or_else.ensures (λ q. search (rules, q))
