use Rattle.std.proofs.Common.{◌<◌, length, ◌⊎◌, rules}
use Rattle.backups_storing.proofs.Storing.{unfit_told, unfit_left, storing_ways}
use Rattle.backups_storing.proofs.store.Goals as goal

pub returns-then-is_empty-clause-answer : goal.returns-then-is_empty-clause-answer
returns-then-is_empty-clause-answer c =
    let h : (length c.args.bytes.now < 1) ⊎ ((4294967296 < length c.args.bytes.now) ⊎ (255 < c.args.space)) = search rules in
    unfit_told c.args.space c.args.bytes.now c.args.out.now h

pub returns-then-is_empty-clause-after : goal.returns-then-is_empty-clause-after
returns-then-is_empty-clause-after c =
    let h : (length c.args.bytes.now < 1) ⊎ ((4294967296 < length c.args.bytes.now) ⊎ (255 < c.args.space)) = search rules in
    unfit_left c.args.space c.args.bytes.now c.args.out.now h

pub returns-then-out-size-clause-answer : goal.returns-then-out-size-clause-answer
returns-then-out-size-clause-answer c = search storing_ways

pub returns-then-out-size-clause-after : goal.returns-then-out-size-clause-after
returns-then-out-size-clause-after c = search storing_ways

pub returns-clause-answer : goal.returns-clause-answer
returns-clause-answer c = search storing_ways

pub returns-clause-after : goal.returns-clause-after
returns-clause-after c = search storing_ways
