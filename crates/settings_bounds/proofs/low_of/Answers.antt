use Rattle.settings_bounds.proofs.Bounding.{low_by}
use Rattle.settings_bounds.proofs.low_of.Goals as goal

pub returns : goal.returns
returns c = low_by c.args.min c.unwrap_or.ensures c.with_sign.ensures.value
