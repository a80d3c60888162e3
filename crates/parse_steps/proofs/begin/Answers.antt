use Rattle.parse_steps.proofs.Starts.{begin_ways}
use Rattle.parse_steps.proofs.begin.Goals as goal

pub returns-then-refers : goal.returns-then-refers
returns-then-refers c = search begin_ways

pub returns-then-left-eq0 : goal.returns-then-left-eq0
returns-then-left-eq0 c = search begin_ways

pub returns-then-begun-eq0 : goal.returns-then-begun-eq0
returns-then-begun-eq0 c = search begin_ways

pub returns-then-left-eq-DEEPEST : goal.returns-then-left-eq-DEEPEST
returns-then-left-eq-DEEPEST c = search begin_ways

pub returns-then-begun-lt-MOST_ELEMENTS : goal.returns-then-begun-lt-MOST_ELEMENTS
returns-then-begun-lt-MOST_ELEMENTS c = search begin_ways

pub returns : goal.returns
returns c = search begin_ways
