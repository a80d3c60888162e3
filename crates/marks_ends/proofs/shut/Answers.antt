use Rattle.marks_ends.proofs.Shutting.{shut_loop}
use Prim.Native.Nat.{◌-◌}
use Rattle.marks_ends.proofs.shut.Goals as goal

pub returns-then-s-at-clause-value : goal.returns-then-s-at-clause-value
returns-then-s-at-clause-value c = search shut_loop

pub returns-then-s-at-ne62-clause-value : goal.returns-then-s-at-ne62-clause-value
returns-then-s-at-ne62-clause-value c = search shut_loop

pub returns-then-s-from-clause-value : goal.returns-then-s-from-clause-value
returns-then-s-from-clause-value c = search shut_loop

pub loop-i-preserved : goal.loop-i-preserved
loop-i-preserved c = search shut_loop

pub returns-clause-value : goal.returns-clause-value
returns-clause-value c = search shut_loop
