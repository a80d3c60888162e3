use Rattle.marks_runs.proofs.Running.{brackets}
use Rattle.marks_runs.proofs.is_bracketed.Goals as goal

pub returns-then-at-from-lt2 : goal.returns-then-at-from-lt2
returns-then-at-from-lt2 c = search brackets

pub returns : goal.returns
returns c = search brackets
