use borrow.Author.Rules.{rules}
use Rattle.tags_faults.proofs.Ruled.{by_rules, by_last}
use Rattle.tags_faults.specs.Told.{told_page}
use Rattle.rules_judge.specs.Tables.{tables_page}
use Rattle.tags_faults.proofs.inner_fault.Goals as goal

pub returns-in-6 : goal.returns-in-6
unfolding told_page tables_page
returns-in-6 c = search (by_rules, by_last, rules)

pub returns-in-7 : goal.returns-in-7
unfolding told_page tables_page
returns-in-7 c = search (by_rules, by_last, rules)

pub returns-in-8 : goal.returns-in-8
unfolding told_page tables_page
returns-in-8 c = search (by_rules, by_last, rules)

pub returns-in_default : goal.returns-in_default
unfolding told_page tables_page
returns-in_default c = search (by_rules, by_last, rules)
