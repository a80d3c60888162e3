use Rattle.names.specs.Names.{names_page}
use Rattle.naming_words.specs.Whole.{whole_page}
use Rattle.naming_words.proofs.Known.{words}
use Rattle.naming_attributes.proofs.other_end.Goals as goal

pub returns-in-6 : goal.returns-in-6
unfolding names_page whole_page
returns-in-6 c = search words

pub returns-in-7 : goal.returns-in-7
unfolding names_page whole_page
returns-in-7 c = search words

pub returns-in-8 : goal.returns-in-8
unfolding names_page whole_page
returns-in-8 c = search words

pub returns-in-9 : goal.returns-in-9
unfolding names_page whole_page
returns-in-9 c = search words

pub returns-in-10 : goal.returns-in-10
unfolding names_page whole_page
returns-in-10 c = search words
