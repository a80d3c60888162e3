use borrow.Author.Rules.{rules}
use Rattle.blocks.specs.Blocks.{space}
use Rattle.backups_parts.proofs.space_of.Goals as goal

pub returns : goal.returns
unfolding space
returns c = search rules
