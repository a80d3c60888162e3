use borrow.Author.Rules.{rules}
use Rattle.children.proofs.is_named.Goals as goal

pub returns : goal.returns
returns c = search rules
