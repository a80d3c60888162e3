use Rattle.judges_enter.proofs.Entering.{tag_faults_law}
use Rattle.judges_enter.proofs.tag_blame.Goals as goal

pub returns-then-row-eq-FOREIGN : goal.returns-then-row-eq-FOREIGN
returns-then-row-eq-FOREIGN c = search tag_faults_law

pub returns-then-entry-eq0 : goal.returns-then-entry-eq0
returns-then-entry-eq0 c = search tag_faults_law

pub returns-then-turn : goal.returns-then-turn
returns-then-turn c = search tag_faults_law

pub returns : goal.returns
returns c = search tag_faults_law
