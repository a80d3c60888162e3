use Rattle.std.proofs.Common.{◌≤◌, ◌↔◌, IsTrue, rules}
use Rattle.backups_judge.proofs.Deciding.{last_long, others_full}
use Rattle.backups_judge.proofs.is_length_good.Goals as goal

pub returns-then-behind-eq0 : goal.returns-then-behind-eq0
returns-then-behind-eq0 c =
    let h : IsTrue c.contains.result ↔ ((1 ≤ c.args.used) × (c.args.used ≤ 502)) = search rules in
    search (last_long, rules)

pub returns-else-behind-eq0 : goal.returns-else-behind-eq0
returns-else-behind-eq0 c = search (others_full, rules)
