use Rattle.maps.specs.Matches.{wanted_of}
use Rattle.access.proofs.Accessing.{checked_exact}
use Rattle.undo.proofs.Editing.{checking_first, check_window, check_journal}
use Rattle.undo.proofs.edit.Goals as goal

pub returns-in_err-end-clause-answer : goal.returns-in_err-end-clause-answer
returns-in_err-end-clause-answer c = search checking_first

pub returns-in_err-end-clause-bytes : goal.returns-in_err-end-clause-bytes
returns-in_err-end-clause-bytes c =
    check_window c.args.text.now c.args.table.now c.check.ensures c.in_err-end.was c.args.session c.args.space c.args.first c.args.window.now c.args.journal.now c.args.n (wanted_of c.args.value c.args.string.now)

pub returns-in_err-end-clause-kept : goal.returns-in_err-end-clause-kept
returns-in_err-end-clause-kept c =
    check_journal c.args.text.now c.args.table.now c.check.ensures c.in_err-end.was c.args.session c.args.space c.args.first c.args.window.now c.args.journal.now c.args.n (wanted_of c.args.value c.args.string.now)

pub edit_known-requires : goal.edit_known-requires
edit_known-requires c = checked_exact c.args.text.now c.args.table.now c.check.ensures c.in_ok-end.was
