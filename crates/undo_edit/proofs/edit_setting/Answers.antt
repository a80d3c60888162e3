use native.Mathlib.Omega.{arith}
use Rattle.undo_edit.proofs.Editing.{editing, cause_told, cause_window, cause_journal, edit_high, edit_room, full_told, full_window, full_journal, in_room_law, few, stands_told, stands_window, stands_journal}
use Rattle.undo_edit.proofs.edit_setting.Goals as goal

pub returns-in-Some-clause-answer : goal.returns-in-Some-clause-answer
returns-in-Some-clause-answer c =
    cause_told c.args.content.now c.requires c.args.n c.args.session c.args.space c.args.first c.args.window.now c.args.journal.now c.args.value c.args.string.now c.is_inside-inside.ensures c.write_cause.ensures c.in-Some.is

pub returns-in-Some-clause-bytes : goal.returns-in-Some-clause-bytes
returns-in-Some-clause-bytes c =
    cause_window c.args.content.now c.requires c.args.n c.args.session c.args.space c.args.first c.args.window.now c.args.journal.now c.args.value c.args.string.now c.is_inside-inside.ensures c.write_cause.ensures c.in-Some.is

pub returns-in-Some-clause-kept : goal.returns-in-Some-clause-kept
returns-in-Some-clause-kept c =
    cause_journal c.args.content.now c.requires c.args.n c.args.session c.args.space c.args.first c.args.window.now c.args.journal.now c.args.value c.args.string.now c.is_inside-inside.ensures c.write_cause.ensures c.in-Some.is

pub overflow_sub-from : goal.overflow_sub-from
overflow_sub-from c = search editing

pub overflow_add-to : goal.overflow_add-to
overflow_add-to c =
    omega (arith, edit_high c.args.content.now c.requires c.args.n c.args.session c.args.space c.args.first c.args.window.now c.args.journal.now c.args.value c.args.string.now c.is_inside-inside.ensures c.write_cause.ensures c.in-None.is, c.well_formed.1.1.1.1.1.0)

pub overflow_add-end : goal.overflow_add-end
overflow_add-end c =
    omega (arith, in_room_law c.args.content.now c.requires c.args.n c.args.session c.args.space c.args.first c.args.window.now c.args.journal.now c.args.value c.args.string.now c.is_inside-inside.ensures c.write_cause.ensures c.in-None.is c.place_for.ensures c.in-Some-place_for.is)

pub overflow_add-end-in-Some-place_for : goal.overflow_add-end-in-Some-place_for
overflow_add-end-in-Some-place_for c =
    omega (arith, in_room_law c.args.content.now c.requires c.args.n c.args.session c.args.space c.args.first c.args.window.now c.args.journal.now c.args.value c.args.string.now c.is_inside-inside.ensures c.write_cause.ensures c.in-None.is c.place_for.ensures c.in-Some-place_for.is)

pub slice_bounds-keep-end : goal.slice_bounds-keep-end
slice_bounds-keep-end c = search editing

pub slice_bounds-keep-end-in-Some-place_for : goal.slice_bounds-keep-end-in-Some-place_for
slice_bounds-keep-end-in-Some-place_for c = search editing

pub slice_bounds-put-end : goal.slice_bounds-put-end
slice_bounds-put-end c = search editing

pub put-requires : goal.put-requires
put-requires c =
    edit_room c.args.content.now c.requires c.args.n c.args.session c.args.space c.args.first c.args.window.now c.args.journal.now c.args.value c.args.string.now c.is_inside-inside.ensures c.write_cause.ensures c.in-None.is

pub overflow_add-result : goal.overflow_add-result
overflow_add-result c =
    omega (arith, few c.args.content.now c.requires c.args.n c.args.session c.args.space c.args.first c.args.window.now c.args.journal.now c.args.value c.args.string.now c.is_inside-inside.ensures c.write_cause.ensures c.in-None.is c.place_for.ensures c.in-Some-place_for.is)

pub returns-in-None-place_for-clause-answer : goal.returns-in-None-place_for-clause-answer
returns-in-None-place_for-clause-answer c =
    full_told c.args.content.now c.requires c.args.n c.args.session c.args.space c.args.first c.args.window.now c.args.journal.now c.args.value c.args.string.now c.is_inside-inside.ensures c.write_cause.ensures c.in-None.is c.place_for.ensures c.in-None-place_for.is

pub returns-in-None-place_for-clause-bytes : goal.returns-in-None-place_for-clause-bytes
returns-in-None-place_for-clause-bytes c =
    full_window c.args.content.now c.requires c.args.n c.args.session c.args.space c.args.first c.args.window.now c.args.journal.now c.args.value c.args.string.now c.is_inside-inside.ensures c.write_cause.ensures c.in-None.is c.place_for.ensures c.in-None-place_for.is

pub returns-in-None-place_for-clause-kept : goal.returns-in-None-place_for-clause-kept
returns-in-None-place_for-clause-kept c =
    full_journal c.args.content.now c.requires c.args.n c.args.session c.args.space c.args.first c.args.window.now c.args.journal.now c.args.value c.args.string.now c.is_inside-inside.ensures c.write_cause.ensures c.in-None.is c.place_for.ensures c.in-None-place_for.is

pub returns-in-Some-place_for-clause-answer : goal.returns-in-Some-place_for-clause-answer
returns-in-Some-place_for-clause-answer c =
    stands_told c.args.content.now c.requires c.args.n c.args.session c.args.space c.args.first c.args.window.now c.args.journal.now c.args.value c.args.string.now c.is_inside-inside.ensures c.write_cause.ensures c.in-None.is c.place_for.ensures c.in-Some-place_for.is

pub returns-in-Some-place_for-clause-bytes : goal.returns-in-Some-place_for-clause-bytes
returns-in-Some-place_for-clause-bytes c =
    stands_window c.args.content.now c.requires c.args.n c.args.session c.args.space c.args.first c.args.window.now c.args.journal.now c.args.value c.args.string.now c.is_inside-inside.ensures c.write_cause.ensures c.in-None.is c.place_for.ensures c.in-Some-place_for.is _ c.put.ensures

pub returns-in-Some-place_for-clause-kept : goal.returns-in-Some-place_for-clause-kept
returns-in-Some-place_for-clause-kept c =
    stands_journal c.args.content.now c.requires c.args.n c.args.session c.args.space c.args.first c.args.window.now c.args.journal.now c.args.value c.args.string.now c.is_inside-inside.ensures c.write_cause.ensures c.in-None.is c.place_for.ensures c.in-Some-place_for.is _ c.keep.ensures
