use Rattle.backups_reading.proofs.Restoring.{sizes}
use Rattle.backups_reading.proofs.window_size.Goals as goal

pub returns : goal.returns
returns c = search sizes
