use Rattle.plan_opening.proofs.Opening.{judging}
use Rattle.plan_opening.proofs.judged.Goals as goal

pub returns-in-Some-clause-said : goal.returns-in-Some-clause-said
returns-in-Some-clause-said c = search judging

pub returns-in-Some-clause-whole : goal.returns-in-Some-clause-whole
returns-in-Some-clause-whole c = search judging

pub returns-then-is_opening-clause-said : goal.returns-then-is_opening-clause-said
returns-then-is_opening-clause-said c = search judging

pub returns-then-is_opening-clause-whole : goal.returns-then-is_opening-clause-whole
returns-then-is_opening-clause-whole c = search judging

pub returns-else-is_opening-clause-said : goal.returns-else-is_opening-clause-said
returns-else-is_opening-clause-said c = search judging

pub returns-else-is_opening-clause-whole : goal.returns-else-is_opening-clause-whole
returns-else-is_opening-clause-whole c = search judging
