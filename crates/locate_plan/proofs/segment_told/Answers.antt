use Rattle.locate_plan.proofs.Tops.{segment_telling}
use Rattle.locate_plan.proofs.segment_told.Goals as goal

pub returns-then-told : goal.returns-then-told
returns-then-told c = search segment_telling

pub returns-else-told : goal.returns-else-told
returns-else-told c = search segment_telling
