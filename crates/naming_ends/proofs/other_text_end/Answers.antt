use Rattle.names.specs.Names.{names_page}
use Rattle.naming_words.specs.Whole.{whole_page}
use Rattle.naming_words.proofs.Known.{words}
use Rattle.naming_ends.proofs.other_text_end.Goals as goal

pub returns-in-18 : goal.returns-in-18
unfolding names_page whole_page
returns-in-18 c = search words

pub returns-in-19 : goal.returns-in-19
unfolding names_page whole_page
returns-in-19 c = search words

pub returns-in-20 : goal.returns-in-20
unfolding names_page whole_page
returns-in-20 c = search words

pub returns-in-21 : goal.returns-in-21
unfolding names_page whole_page
returns-in-21 c = search words

pub returns-in-22 : goal.returns-in-22
unfolding names_page whole_page
returns-in-22 c = search words

pub returns-in-23 : goal.returns-in-23
unfolding names_page whole_page
returns-in-23 c = search words
