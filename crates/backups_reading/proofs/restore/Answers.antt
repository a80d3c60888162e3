use Rattle.std.proofs.Common.{◌≡◌, ◌<◌, ◌%◌, length, ◌⊎◌, rules}
use Rattle.backups_reading.proofs.Answering.{uneven_told, uneven_left, bad_left, readings}
use Rattle.backups_reading.proofs.restore.Goals as goal

pub returns-then-is_empty-clause-answer : goal.returns-then-is_empty-clause-answer
returns-then-is_empty-clause-answer c =
    let h : (length c.args.b.now < 1) ⊎ (length c.args.b.now % 512 ≡ 0 → ⊥) = search rules in
    uneven_told c.args.b.now c.args.out.now h

pub returns-then-is_empty-clause-after : goal.returns-then-is_empty-clause-after
returns-then-is_empty-clause-after c =
    let h : (length c.args.b.now < 1) ⊎ (length c.args.b.now % 512 ≡ 0 → ⊥) = search rules in
    uneven_left c.args.b.now c.args.out.now h

pub returns-in_err-first_bad-clause-answer : goal.returns-in_err-first_bad-clause-answer
returns-in_err-first_bad-clause-answer c = search (readings, rules)

pub returns-in_err-first_bad-clause-after : goal.returns-in_err-first_bad-clause-after
returns-in_err-first_bad-clause-after c =
    bad_left c.args.b.now c.args.out.now (search rules) (search rules) c.space_of-space.result c.space_of-space.ensures c.first_bad.result c.first_bad.ensures c.in_err-first_bad.field-0.0 c.in_err-first_bad.was

pub put_window-requires : goal.put_window-requires
put_window-requires c = search (readings, rules)

pub returns-clause-answer : goal.returns-clause-answer
returns-clause-answer c = search (readings, rules)

pub returns-clause-after : goal.returns-clause-after
returns-clause-after c = search (readings, rules)
