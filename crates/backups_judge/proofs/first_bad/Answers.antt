use native.Mathlib.Omega.{arith}
use Rattle.backups_judge.proofs.Judging.{passing, one_passed}
use Rattle.backups_judge.proofs.first_bad.Goals as goal

pub loop-k-preserved : goal.loop-k-preserved
loop-k-preserved c = one_passed c.loop-k.invariant (omega arith) c.cause_of.result c.cause_of.ensures c.in_ok-cause_of.was

pub returns : goal.returns
returns c = search passing

pub returns-in_err-cause_of : goal.returns-in_err-cause_of
returns-in_err-cause_of c = search passing
