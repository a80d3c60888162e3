use Rattle.std.proofs.Common.{[], rules}
use Rattle.listing_fill.proofs.Filled.{element_needs, element_fills, group_copying}
use Rattle.listing_fill.proofs.Going.{going, going_needs, GoingLess}
use Rattle.listing_fill.proofs.+fill_copies_fill_element.Goals as goal

pub fill_copies-loop-again-smaller-then-end-i :
    goal.fill_copies-loop-again-smaller-then-end-i
fill_copies-loop-again-smaller-then-end-i t c = search GoingLess

pub fill_copies-loop-again-smaller-then-count-left :
    goal.fill_copies-loop-again-smaller-then-count-left
fill_copies-loop-again-smaller-then-count-left t c = search GoingLess

pub fill_copies-loop-again-smaller :
    goal.fill_copies-loop-again-smaller
fill_copies-loop-again-smaller t c = search GoingLess

pub fill_copies-loop-again-init : goal.fill_copies-loop-again-init
fill_copies-loop-again-init t c = search going

pub fill_copies-returns-then-room-k-clause-value : goal.fill_copies-returns-then-room-k-clause-value
fill_copies-returns-then-room-k-clause-value t c = search going

pub fill_copies-returns-then-room-k-clause-out_after : goal.fill_copies-returns-then-room-k-clause-out_after
fill_copies-returns-then-room-k-clause-out_after t c = search going

pub fill_copies-loop-again-preserved-then-end-i : goal.fill_copies-loop-again-preserved-then-end-i
fill_copies-loop-again-preserved-then-end-i t c = search going

pub fill_copies-next_record-next-requires : goal.fill_copies-next_record-next-requires
fill_copies-next_record-next-requires t c = search going_needs

pub fill_copies-moved_by-behind-requires : goal.fill_copies-moved_by-behind-requires
fill_copies-moved_by-behind-requires t c = search going_needs

pub fill_copies-loop-again-preserved-then-count-left : goal.fill_copies-loop-again-preserved-then-count-left
fill_copies-loop-again-preserved-then-count-left t c = search going

pub fill_copies-fill_element-k-requires : goal.fill_copies-fill_element-k-requires
fill_copies-fill_element-k-requires t c = (search rules, (search rules, search rules, search going_needs, search rules, search rules, search rules))

pub fill_copies-loop-again-preserved : goal.fill_copies-loop-again-preserved
fill_copies-loop-again-preserved t c = search going

pub fill_copies-returns-clause-value : goal.fill_copies-returns-clause-value
fill_copies-returns-clause-value t c = search going

pub fill_copies-returns-clause-out_after : goal.fill_copies-returns-clause-out_after
fill_copies-returns-clause-out_after t c = search going

pub fill_element-moved_by-start-requires : goal.fill_element-moved_by-start-requires
fill_element-moved_by-start-requires t c = search element_needs

pub fill_element-choose-copy-requires : goal.fill_element-choose-copy-requires
fill_element-choose-copy-requires t c = search element_needs

pub fill_element-copies_from-copies-requires : goal.fill_element-copies_from-copies-requires
fill_element-copies_from-copies-requires t c = search element_needs

pub fill_element-next_record-next-requires : goal.fill_element-next_record-next-requires
fill_element-next_record-next-requires t c = search element_needs

pub fill_element-fill_copies-requires : goal.fill_element-fill_copies-requires
fill_element-fill_copies-requires t c =
    let known = c.requires in (
      search rules,
      (
        search rules,
        search rules,
        group_copying _ 0 _ _ _ _ 0 0 [] known.0 known.2 known.3 c.moved_by-start.ensures c.rise_at-kind.ensures.0 c.if-kind-eq-GROUP.true c.choose-copy.ensures c.copies_from-copies.ensures c.next_record-next.ensures.0,
        search rules,
        search rules,
      ),
    )

pub fill_element-returns-then-kind-eq-GROUP-clause-value : goal.fill_element-returns-then-kind-eq-GROUP-clause-value
fill_element-returns-then-kind-eq-GROUP-clause-value t c = search element_fills

pub fill_element-returns-then-kind-eq-GROUP-clause-out_after : goal.fill_element-returns-then-kind-eq-GROUP-clause-out_after
fill_element-returns-then-kind-eq-GROUP-clause-out_after t c = search element_fills

pub fill_element-returns-clause-value : goal.fill_element-returns-clause-value
fill_element-returns-clause-value t c = search element_fills

pub fill_element-returns-clause-out_after : goal.fill_element-returns-clause-out_after
fill_element-returns-clause-out_after t c = search element_fills
