use Rattle.names.specs.Names.{names_page}
use Rattle.naming_words.specs.Whole.{whole_page}
use Rattle.naming_words.proofs.Known.{words}
use Rattle.naming_attributes.proofs.first_end.Goals as goal

pub returns-in-1 : goal.returns-in-1
unfolding names_page whole_page
returns-in-1 c = search words

pub returns-in-2 : goal.returns-in-2
unfolding names_page whole_page
returns-in-2 c = search words

pub returns-in-3 : goal.returns-in-3
unfolding names_page whole_page
returns-in-3 c = search words

pub returns-in-4 : goal.returns-in-4
unfolding names_page whole_page
returns-in-4 c = search words

pub returns-in-5 : goal.returns-in-5
unfolding names_page whole_page
returns-in-5 c = search words
