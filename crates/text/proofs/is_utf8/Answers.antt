use Rattle.text.proofs.Checks.{utf8_told}
use Rattle.text.proofs.is_utf8.Goals as goal

pub returns : goal.returns
returns c = utf8_told _ _ _ c.first_bad.ensures c.is_none.ensures
