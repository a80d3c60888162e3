use Rattle.locate_plan.proofs.Tops.{counting, entering_top}
use Rattle.locate_plan.proofs.segments.Goals as goal

pub loop-i-init : goal.loop-i-init
loop-i-init c = search counting

pub returns-then-not-segment_fits : goal.returns-then-not-segment_fits
returns-then-not-segment_fits c = search counting

pub returns-in_default : goal.returns-in_default
returns-in_default c = search counting

pub segment_told-requires : goal.segment_told-requires
segment_told-requires c = search entering_top

pub returns-then-not-segment_told : goal.returns-then-not-segment_told
returns-then-not-segment_told c = search counting

pub returns-then-count-own : goal.returns-then-count-own
returns-then-count-own c = search counting

pub loop-i-preserved : goal.loop-i-preserved
loop-i-preserved c = search counting

pub returns : goal.returns
returns c = search counting

pub next_record-next-requires : goal.next_record-next-requires
next_record-next-requires c = search entering_top
