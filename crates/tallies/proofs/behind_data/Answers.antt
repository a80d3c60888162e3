use Rattle.std.proofs.Common.{rules}
use Rattle.tallies.proofs.Leaving.{data_left, data_written}
use Rattle.tallies.proofs.behind_data.Goals as goal

pub returns-clause-result_value : goal.returns-clause-result_value
returns-clause-result_value c =
    data_left c.args.g c.args.at c.args.element c.args.m c.args.inner c.requires.0 c.requires.1 c.requires.2 c.own_extent-told.ensures.0 c.joined-extent.ensures.0

pub returns-clause-rows : goal.returns-clause-rows
returns-clause-rows c =
    data_written c.args.g c.args.at c.args.element c.args.m c.args.inner c.requires.0 c.requires.1 c.requires.2 c.own_extent-told.ensures.0 c.args.rows.now (search rules) c.width_of-width.ensures.0 c.copies_of-copies.ensures.0 c.write_record.ensures.rows_after
