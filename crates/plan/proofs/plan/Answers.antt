use Rattle.plan.proofs.Staging.{staging, opened_written}
use Rattle.plan.proofs.plan.Goals as goal

pub returns-in_err-end-clause-answer : goal.returns-in_err-end-clause-answer
returns-in_err-end-clause-answer c = search staging

pub returns-in_err-end-clause-after : goal.returns-in_err-end-clause-after
returns-in_err-end-clause-after c = search staging

pub slice_bounds-plan_content-end : goal.slice_bounds-plan_content-end
slice_bounds-plan_content-end c = search staging

pub plan_content-requires : goal.plan_content-requires
plan_content-requires c = search staging

pub returns-clause-answer : goal.returns-clause-answer
returns-clause-answer c = search staging

pub returns-clause-after : goal.returns-clause-after
returns-clause-after c = opened_written _ c.open_text.ensures.said c.in_ok-end.was _ c.plan_content.ensures.after
