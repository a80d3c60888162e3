use Rattle.undo_take.proofs.Undoing.{undoing}
use Rattle.undo_take.proofs.undo_known.Goals as goal

pub returns-then-session-eq0-clause-answer : goal.returns-then-session-eq0-clause-answer
returns-then-session-eq0-clause-answer c = search undoing

pub returns-then-session-eq0-clause-bytes : goal.returns-then-session-eq0-clause-bytes
returns-then-session-eq0-clause-bytes c = search undoing

pub returns-in_default-clause-answer : goal.returns-in_default-clause-answer
returns-in_default-clause-answer c = search undoing

pub returns-in_default-clause-bytes : goal.returns-in_default-clause-bytes
returns-in_default-clause-bytes c = search undoing

pub returns-in_default-seek-clause-answer : goal.returns-in_default-seek-clause-answer
returns-in_default-seek-clause-answer c = search undoing

pub returns-in_default-seek-clause-bytes : goal.returns-in_default-seek-clause-bytes
returns-in_default-seek-clause-bytes c = search undoing

pub put_back-requires : goal.put_back-requires
put_back-requires c = search undoing

pub returns-clause-answer : goal.returns-clause-answer
returns-clause-answer c = search undoing

pub returns-clause-bytes : goal.returns-clause-bytes
returns-clause-bytes c = search undoing
