use Rattle.tallies.proofs.Leaving.{as_segment, segment_stored, aside_left, aside_written, leaves}
use Rattle.tallies.proofs.leave.Goals as goal

pub behind_segment-requires : goal.behind_segment-requires
behind_segment-requires c = search leaves

pub returns-then-is_segment-clause-result_value : goal.returns-then-is_segment-clause-result_value
returns-then-is_segment-clause-result_value c = as_segment _ _ c.is_segment.ensures c.if-is_segment.true _ _ _ _ c.behind_segment.ensures.result_value

pub returns-then-is_segment-clause-rows : goal.returns-then-is_segment-clause-rows
returns-then-is_segment-clause-rows c = segment_stored _ _ c.is_segment.ensures c.if-is_segment.true _ _ _ _ c.args.rows.now c.behind_segment.ensures.rows

pub behind_data-requires : goal.behind_data-requires
behind_data-requires c = search leaves

pub returns-clause-result_value : goal.returns-clause-result_value
returns-clause-result_value c =
    aside_left c.args.g c.args.at c.args.element _ c.args.inner c.is_segment.ensures c.if-is_segment.false c.is_data.ensures c.if-is_data.false c.level_behind-level.ensures

pub returns-clause-rows : goal.returns-clause-rows
returns-clause-rows c =
    aside_written c.args.g c.args.at c.args.element _ c.args.inner c.is_segment.ensures c.if-is_segment.false c.is_data.ensures c.if-is_data.false c.args.rows.now
