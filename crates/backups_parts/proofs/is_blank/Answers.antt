use Rattle.std.proofs.Common.{◌≡◌, ◌↔◌, IsTrue, EachIndex, get_or, rules}
use Rattle.backups_parts.proofs.Zeros.{blank}
use Rattle.backups_parts.proofs.is_blank.Goals as goal

pub returns : goal.returns
returns c =
    let h : IsTrue c.all.result ↔ EachIndex c.args.part.now (λ k. get_or c.args.part.now k 0 ≡ 0) = search rules in
    blank c.args.part.now c.all.result h
