use Rattle.undo.proofs.Editing.{editing}
use Rattle.undo.proofs.edit_known.Goals as goal

pub slice_bounds-edit_setting-end : goal.slice_bounds-edit_setting-end
slice_bounds-edit_setting-end c = search editing

pub edit_setting-requires : goal.edit_setting-requires
edit_setting-requires c = search editing

pub returns-in-Err-clause-answer : goal.returns-in-Err-clause-answer
returns-in-Err-clause-answer c = search editing

pub returns-in-Err-clause-bytes : goal.returns-in-Err-clause-bytes
returns-in-Err-clause-bytes c = search editing

pub returns-in-Err-clause-kept : goal.returns-in-Err-clause-kept
returns-in-Err-clause-kept c = search editing

pub returns-in-Ok-clause-answer : goal.returns-in-Ok-clause-answer
returns-in-Ok-clause-answer c = search editing

pub returns-in-Ok-clause-bytes : goal.returns-in-Ok-clause-bytes
returns-in-Ok-clause-bytes c = search editing

pub returns-in-Ok-clause-kept : goal.returns-in-Ok-clause-kept
returns-in-Ok-clause-kept c = search editing
