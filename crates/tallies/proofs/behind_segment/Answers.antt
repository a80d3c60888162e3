use Rattle.std.proofs.Common.{rules}
use Rattle.tallies.proofs.Leaving.{segment_left, segment_written}
use Rattle.tallies.proofs.behind_segment.Goals as goal

pub returns-clause-result_value : goal.returns-clause-result_value
returns-clause-result_value c =
    segment_left c.args.g c.args.at c.args.m c.args.inner c.requires.0 _ c.capped-total.ensures.0 c.origin_of.ensures.0 c.fits-keeps.ensures c.first_leaving-leaves.ensures

pub returns-clause-rows : goal.returns-clause-rows
returns-clause-rows c =
    segment_written c.args.g c.args.at c.args.m c.args.inner c.requires.0 c.args.rows.now c.requires.3 (search rules) c.write_record.ensures.rows_after
