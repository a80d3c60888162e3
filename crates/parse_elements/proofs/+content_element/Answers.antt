use Rattle.std.proofs.Common.{arith, ◌∙◌}
use borrow.Author.Tests.{not-true, not-false}
use Rattle.marks_cuts.proofs.Sorts.{other_sort}
use Rattle.parse_elements.proofs.Contents.{still_fits, run_read, run_low, run_high, run_solid_high, run_solid_is, rare_read, content_loop}
use Rattle.parse_elements.proofs.Elements.{Ended, no_tag, refused_tag, short_ended, refused_inside, refused_end, long_ended, name_high, name_there, inside_tag, inside_room, element_ways}
use Rattle.parse_elements.proofs.Leaves.{leaf_read}
use Rattle.parse_elements.proofs.+content_element.Goals as goal
use Rattle.parse_elements.proofs.+content_element.Goals.{element-then-not-tag+else-inside-ne0+else-end-ne0, element-else-not-tag}

pub content-loop-i-init : goal.content-loop-i-init
content-loop-i-init t c = search content_loop

pub content-element-child-requires : goal.content-element-child-requires
content-element-child-requires t c = search content_loop

pub content-run_at-run-requires : goal.content-run_at-run-requires
content-run_at-run-requires t c = search content_loop

pub content-returns-then-run-eq0 : goal.content-returns-then-run-eq0
content-returns-then-run-eq0 t c = search content_loop

pub content-returns-then-is_stray : goal.content-returns-then-is_stray
content-returns-then-is_stray t c = search content_loop

pub content-with_run-sum-requires : goal.content-with_run-sum-requires
content-with_run-sum-requires t c =
    let known = c.requires.1 in
    let v = c.loop-i.invariant in
    let w = c.run_at-run.ensures.runs in (
      run_low v known w c.if-run-eq0.false c.is_stray.ensures,
      run_high v known w c.if-run-eq0.false c.is_stray.ensures,
      c.requires.5,
      run_solid_high v known w c.if-run-eq0.false c.is_stray.ensures,
      run_solid_is v known w c.if-run-eq0.false c.is_stray.ensures,
      still_fits v,
    )

pub content-loop-i-preserved-then-sort-eq2 : goal.content-loop-i-preserved-then-sort-eq2
content-loop-i-preserved-then-sort-eq2 t c =
    run_read c.loop-i.invariant c.requires.1 c.run_at-run.ensures.runs c.if-run-eq0.false c.is_stray.ensures _ c.if-is_stray.false c.with_run-sum.ensures.0 c.with_run-sum.ensures.1 c.with_run-sum.ensures.2

pub content-end_tag-stray-requires : goal.content-end_tag-stray-requires
content-end_tag-stray-requires t c = search content_loop

pub content-returns-then-left-eq-DEEPEST : goal.content-returns-then-left-eq-DEEPEST
content-returns-then-left-eq-DEEPEST t c = search content_loop

pub content-returns-then-sort-eq1 : goal.content-returns-then-sort-eq1
content-returns-then-sort-eq1 t c = search content_loop

pub content-returns-then-rare-ne0 : goal.content-returns-then-rare-ne0
content-returns-then-rare-ne0 t c = search content_loop

pub content-returns-then-is_outside : goal.content-returns-then-is_outside
content-returns-then-is_outside t c = search content_loop

pub content-loop-i-preserved : goal.content-loop-i-preserved
content-loop-i-preserved t c =
    rare_read c.loop-i.invariant c.requires.1 (other_sort c.args.s.now c.loop-i.i c.sort_of-sort.ensures.value c.sort_of-sort.ensures.bounds c.if-sort-eq0.false c.if-sort-eq1.false c.if-sort-eq2.false) c.rare_at-rare.ensures c.if-rare-ne0.false c.is_outside.ensures _ c.if-is_outside.false c.with_rare-sum.ensures.0 c.with_rare-sum.ensures.1 c.with_rare-sum.ensures.2

pub content-returns : goal.content-returns
content-returns t c = search content_loop

pub element-returns-then-behind-from : goal.element-returns-then-behind-from
element-returns-then-behind-from t c = search element_ways

pub element-returns-then-leaf-ne0 : goal.element-returns-then-leaf-ne0
element-returns-then-leaf-ne0 t c =
    let n = c.element_name-name.ensures in
    leaf_read _ (c.wide-child.ensures ∙ n.number) c.entry_of-entry.ensures c.begin-clear.ensures.0 c.begin-clear.ensures.1 c.begin-clear.ensures.2 c.requires.2 c.requires.5 _ (c.plain_leaf-leaf.ensures c.if-leaf-ne0.true) c.if-leaf-ne0.true _ c.with_leaf.ensures.0 c.with_leaf.ensures.2 _ (omega arith) c.with_leaf.ensures.1

pub element-returns-then-tag-eq0 : goal.element-returns-then-tag-eq0
element-returns-then-tag-eq0 t c = no_tag _ _ _ _ _ _ c.requires.1 c.element_name-name.ensures.name _ c.if-behind-from.false c.start_tag-tag.ensures _ _ c.if-tag-eq0.true

pub element-returns-then-number-ne0 : goal.element-returns-then-number-ne0
element-returns-then-number-ne0 t c =
    refused_tag _ _ _ _ _ _ c.requires.1 c.element_name-name.ensures.name _ c.if-behind-from.false c.start_tag-tag.ensures c.if-tag-eq0.false c.begin-number.ensures.0 _ _ c.if-number-ne0.true

pub element-returns-then-inside-ne0 : goal.element-returns-then-inside-ne0
element-returns-then-inside-ne0 t c =
    refused_inside _ _ _ _ _ _ c.requires.1 c.element_name-name.ensures.name _ c.if-behind-from.false c.start_tag-tag.ensures c.if-tag-eq0.false c.begin-number.ensures.0 c.if-number-ne0.false (not-true _ c.if-not-tag.true) c.begin-number.ensures.1 _ _ c.content-inside.ensures c.if-inside-ne0.true

pub element-close-end-requires : goal.element-close-end-requires
element-close-end-requires t c =
    let n = c.element_name-name.ensures.name in (
      name_there n c.if-behind-from.false,
      name_high n,
      n,
      inside_room _ c.content-inside.ensures c.if-inside-ne0.false (omega (arith, c.requires.2, c.begin-number.ensures.1, c.if-number-ne0.false)),
      inside_tag _ c.content-inside.ensures c.if-inside-ne0.false (omega (arith, c.requires.2, c.begin-number.ensures.1, c.if-number-ne0.false)),
    )

pub element-returns-then-end-ne0 : goal.element-returns-then-end-ne0
element-returns-then-end-ne0 t c =
    refused_end _ _ _ _ _ _ c.requires.1 c.element_name-name.ensures.name _ c.if-behind-from.false c.start_tag-tag.ensures c.if-tag-eq0.false c.begin-number.ensures.0 c.if-number-ne0.false (not-true _ c.if-not-tag.true) c.begin-number.ensures.1 _ _ c.content-inside.ensures c.if-inside-ne0.false c.close-end.ensures.closes _ _ c.if-end-ne0.true

pub element-returns : goal.element-returns
element-returns t c =
    let ended : Ended c.args.s.now c.args.left c.args.at c.args.begun c.args.st c.args.rows.now c.element_name-name.result.behind c.if-not-tag.place c.if-not-tag.count c.if-not-tag.last c.if-not-tag.rows =
    elim c.if-not-tag.branch [
      | element-then-not-tag+else-inside-ne0+else-end-ne0 w ↦ long_ended _ _ _ _ _ _ c.requires.1 c.element_name-name.ensures.name _ c.if-behind-from.false c.start_tag-tag.ensures c.if-tag-eq0.false c.begin-number.ensures.0 c.if-number-ne0.false (not-true _ w.if-not-tag.true) c.begin-number.ensures.1 _ _ w.content-inside.ensures w.if-inside-ne0.false w.close-end.ensures.closes w.if-end-ne0.false c.enter-inner.ensures.0 w.place-is w.count-is w.last-is w.rows-is
      | element-else-not-tag w ↦ short_ended _ _ _ _ _ _ c.requires.1 c.element_name-name.ensures.name _ c.if-behind-from.false c.start_tag-tag.ensures c.if-tag-eq0.false c.begin-number.ensures.0 c.if-number-ne0.false _ (not-false _ w.if-not-tag.false) c.begin-number.ensures.2 c.requires.5 c.enter-inner.ensures.0 c.enter-inner.ensures.1 c.enter-inner.ensures.2 w.place-is w.count-is w.last-is w.rows-is
    ] in
    let left = c.leave.ensures in
    ended.reads _ left.result_value.0 left.result_value.1 left.result_value.2 left.rows.0 left.rows.1
