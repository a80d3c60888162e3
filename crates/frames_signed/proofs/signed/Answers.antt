use borrow.Author.Rules.{rules}
use Rattle.frames_signed.proofs.Turned.{turned}
use Rattle.frames_signed.proofs.signed.Goals as goal

pub returns : goal.returns
returns c = search (turned, rules)
