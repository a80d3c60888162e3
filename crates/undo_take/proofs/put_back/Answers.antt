use Rattle.std.proofs.Common.{◌≡◌, true, arith, rules}
use borrow.Author.Tests.{not-true, not-false}
use Rattle.undo_take.proofs.Taking.{taking, take_high, take_room}
use Rattle.undo_take.proofs.put_back.Goals as goal

pub returns-then-setting-size-clause-answer : goal.returns-then-setting-size-clause-answer
returns-then-setting-size-clause-answer c = search taking

pub returns-then-setting-size-clause-bytes : goal.returns-then-setting-size-clause-bytes
returns-then-setting-size-clause-bytes c = search taking

pub returns-then-not-is_inside-clause-answer : goal.returns-then-not-is_inside-clause-answer
returns-then-not-is_inside-clause-answer c = search taking

pub returns-then-not-is_inside-clause-bytes : goal.returns-then-not-is_inside-clause-bytes
returns-then-not-is_inside-clause-bytes c = search taking

pub overflow_sub-start : goal.overflow_sub-start
overflow_sub-start c = search taking

pub overflow_add-end : goal.overflow_add-end
overflow_add-end c =
    let inside : c.is_inside.result ≡ true = search (not-true, not-false, rules) in
    omega (arith, take_high c.args.setting c.args.session c.args.space c.args.first c.args.window.now c.args.journal.now c.args.size c.args.from c.requires.0 c.requires.1 (search rules) c.is_inside.ensures inside)

pub overflow_add-to : goal.overflow_add-to
overflow_add-to c =
    let inside : c.is_inside.result ≡ true = search (not-true, not-false, rules) in
    omega (arith, take_room c.args.setting c.args.session c.args.space c.args.first c.args.window.now c.args.journal.now c.args.size c.args.from c.requires.0 c.requires.1 (search rules) c.is_inside.ensures inside)

pub slice_bounds-put_text-end : goal.slice_bounds-put_text-end
slice_bounds-put_text-end c = search taking

pub slice_bounds-put_text-end-2 : goal.slice_bounds-put_text-end-2
slice_bounds-put_text-end-2 c = search taking

pub returns-clause-answer : goal.returns-clause-answer
returns-clause-answer c = search taking

pub returns-clause-bytes : goal.returns-clause-bytes
returns-clause-bytes c = search taking
