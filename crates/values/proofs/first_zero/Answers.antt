use Rattle.std.proofs.Common.{◌≡◌, eqb, rules}
use Rattle.std.proofs.lemmas.Iterator.{YieldsList-from_slice}
use Rattle.std.proofs.lemmas.Iterator.Search.{position_from_yields_List}
use Rattle.std.specs.List.{position}
use borrow.Author.Tests.{tests}
use Rattle.values.proofs.Padding.{zero_placed}
use Rattle.values.proofs.first_zero.Goals as goal

pub returns : goal.returns
returns c =
    let e : c.position.result ≡ position (λ b. eqb b 0) c.args.part.now = position_from_yields_List (λ b. eqb b 0) _ _ c.position.result c.position.ensures.ran (YieldsList-from_slice _ c.iter.ensures.rest) (λ x b q k. search (rules, tests)) in
    rw e (zero_placed c.args.part.now)
