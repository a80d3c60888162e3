use Rattle.access.proofs.Accessing.{checked_exact}
use Rattle.undo.proofs.Editing.{checking_first, undo_window}
use Rattle.undo.proofs.undo.Goals as goal

pub returns-in_err-end-clause-answer : goal.returns-in_err-end-clause-answer
returns-in_err-end-clause-answer c = search checking_first

pub returns-in_err-end-clause-bytes : goal.returns-in_err-end-clause-bytes
returns-in_err-end-clause-bytes c =
    undo_window c.args.text.now c.args.table.now c.check.ensures c.in_err-end.was c.args.session c.args.space c.args.first c.args.window.now c.args.journal.now

pub undo_known-requires : goal.undo_known-requires
undo_known-requires c = checked_exact c.args.text.now c.args.table.now c.check.ensures c.in_ok-end.was
