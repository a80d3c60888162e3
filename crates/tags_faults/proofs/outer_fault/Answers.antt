use borrow.Author.Rules.{rules}
use Rattle.tags_faults.proofs.Ruled.{by_rules, outer_none}
use Rattle.tags_faults.specs.Told.{told_page}
use Rattle.rules_judge.specs.Tables.{tables_page}
use Rattle.tags_faults.proofs.outer_fault.Goals as goal

pub returns-in-1 : goal.returns-in-1
unfolding told_page tables_page
returns-in-1 c = search (by_rules, rules)

pub returns-in-3 : goal.returns-in-3
unfolding told_page tables_page
returns-in-3 c = search (by_rules, rules)

pub returns-in-4 : goal.returns-in-4
unfolding told_page tables_page
returns-in-4 c = search (by_rules, rules)

pub returns-in-5 : goal.returns-in-5
unfolding told_page tables_page
returns-in-5 c = search (by_rules, rules)

pub returns-in_default : goal.returns-in_default
returns-in_default c = search (outer_none, rules)
