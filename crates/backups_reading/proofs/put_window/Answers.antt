use Rattle.backups_reading.proofs.Answering.{rooms}
use Rattle.backups_reading.proofs.put_window.Goals as goal

pub returns-then-out-size-clause-answer : goal.returns-then-out-size-clause-answer
returns-then-out-size-clause-answer c = search rooms

pub returns-then-out-size-clause-after : goal.returns-then-out-size-clause-after
returns-then-out-size-clause-after c = search rooms

pub returns-clause-answer : goal.returns-clause-answer
returns-clause-answer c = search rooms

pub returns-clause-after : goal.returns-clause-after
returns-clause-after c = search rooms
