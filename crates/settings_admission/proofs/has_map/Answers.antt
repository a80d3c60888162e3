use Rattle.std.proofs.Common.{◌∙◌, ap, not}
use Rattle.settings_admission.proofs.Admitting.{no_map, some_map}
use Rattle.settings_admission.proofs.has_map.Goals as goal
use Rattle.settings_admission.proofs.has_map.Goals.{in-Missing, in_default}

pub returns : goal.returns
returns c =
    elim c.match-matches.branch [
      | in-Missing w ↦ ap not w.matches-is ∙ no_map _ _ c.child_in.ensures.is w.in-Missing.is
      | in_default w ↦ ap not w.matches-is ∙ some_map _ _ c.child_in.ensures.is w.in_default.not-Missing
    ]
