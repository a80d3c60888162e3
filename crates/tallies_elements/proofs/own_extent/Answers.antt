use Rattle.tallies_elements.proofs.Elements.{owning}
use Rattle.tallies_elements.proofs.own_extent.Goals as goal

pub returns-then-element-eq-GROUP : goal.returns-then-element-eq-GROUP
returns-then-element-eq-GROUP c = search owning

pub returns : goal.returns
returns c = search owning
