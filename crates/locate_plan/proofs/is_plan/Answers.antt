use borrow.Author.Rules.{rules}
use Rattle.locate_plan.proofs.Tops.{planning}
use Rattle.locate_plan.proofs.is_plan.Goals as goal

pub returns-then-numbers-ne0 : goal.returns-then-numbers-ne0
returns-then-numbers-ne0 c = search planning

pub returns-then-records-gt-MOST_RECORDS : goal.returns-then-records-gt-MOST_RECORDS
returns-then-records-gt-MOST_RECORDS c = search planning

pub returns : goal.returns
returns c = search planning

pub segments-requires : goal.segments-requires
segments-requires c = search rules
