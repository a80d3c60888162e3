use borrow.Author.Rules.{rules}
use Rattle.tallies_records.proofs.Rows.{put_read, no_room}
use Rattle.tallies_records.proofs.write_record.Goals as goal

pub returns-else-at-rows-clause-rows_after : goal.returns-else-at-rows-clause-rows_after
returns-else-at-rows-clause-rows_after c = search (no_room, rules)

pub returns-then-at-rows-clause-rows_after : goal.returns-then-at-rows-clause-rows_after
returns-then-at-rows-clause-rows_after c = search (put_read, rules)
