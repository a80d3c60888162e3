use Rattle.std.proofs.Common.{rules}
use Rattle.parse_state.proofs.Beside.{leaves, left_fits, stores, steps}
use Rattle.parse_state.proofs.leave.Goals as goal

pub leave-tally-requires : goal.leave-tally-requires
leave-tally-requires c = search steps

pub returns-clause-result_value : goal.returns-clause-result_value
returns-clause-result_value c =
    let known = c.requires in
    let judged = c.leave-judge.ensures in
    let tallied = c.leave-tally.ensures in (
      leaves _ _ _ _ _ known.0 known.1 known.2 known.3 _ _ _ c.wider.ensures judged.result_value tallied.result_value tallied.root,
      left_fits _ judged.places tallied.kept.0 tallied.kept.1 known.6,
      search rules,
    )

pub returns-clause-rows : goal.returns-clause-rows
returns-clause-rows c =
    let known = c.requires in
    let tallied = c.leave-tally.ensures in (
      stores _ _ _ _ _ known.0 known.1 known.2 known.3 _ _ tallied.rows,
      tallied.length,
    )
