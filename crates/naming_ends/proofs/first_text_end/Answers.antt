use Rattle.names.specs.Names.{names_page}
use Rattle.naming_words.specs.Whole.{whole_page}
use Rattle.naming_words.proofs.Known.{words}
use Rattle.naming_ends.proofs.first_text_end.Goals as goal

pub returns-in-12 : goal.returns-in-12
unfolding names_page whole_page
returns-in-12 c = search words

pub returns-in-13 : goal.returns-in-13
unfolding names_page whole_page
returns-in-13 c = search words

pub returns-in-14 : goal.returns-in-14
unfolding names_page whole_page
returns-in-14 c = search words

pub returns-in-15 : goal.returns-in-15
unfolding names_page whole_page
returns-in-15 c = search words

pub returns-in-16 : goal.returns-in-16
unfolding names_page whole_page
returns-in-16 c = search words

pub returns-in-17 : goal.returns-in-17
unfolding names_page whole_page
returns-in-17 c = search words
