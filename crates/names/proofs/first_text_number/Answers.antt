use Rattle.names.specs.Names.{element_names, number_in}
use Rattle.names.proofs.Positions.{chain}
use Rattle.names.proofs.first_text_number.Goals as goal

pub returns-then-same : goal.returns-then-same
unfolding number_in element_names
returns-then-same c = search chain depth 10 fits 2000

pub returns-then-same-2 : goal.returns-then-same-2
unfolding number_in element_names
returns-then-same-2 c = search chain depth 10 fits 2000

pub returns-then-same-3 : goal.returns-then-same-3
unfolding number_in element_names
returns-then-same-3 c = search chain depth 10 fits 2000

pub returns-then-same-4 : goal.returns-then-same-4
unfolding number_in element_names
returns-then-same-4 c = search chain depth 10 fits 2000

pub returns-then-same-5 : goal.returns-then-same-5
unfolding number_in element_names
returns-then-same-5 c = search chain depth 10 fits 2000

pub returns-then-same-6 : goal.returns-then-same-6
unfolding number_in element_names
returns-then-same-6 c = search chain depth 10 fits 2000

pub returns : goal.returns
unfolding number_in element_names
returns c = search chain depth 10 fits 2000
