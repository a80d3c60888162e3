use native.Mathlib.Omega.{arith}
use Rattle.std.proofs.lemmas.Grind.{common_steps}
use Rattle.std.proofs.lemmas.Option.{gets}
use Rattle.numbers.proofs.Reading.{some_sign, no_sign, sign_past}
use Rattle.numbers.proofs.behind_sign.Goals as goal

pub returns-in-Some-eq45-clause-value : goal.returns-in-Some-eq45-clause-value
returns-in-Some-eq45-clause-value c = some_sign c.args.s.now c.args.at (grind (arith, common_steps, gets))

pub returns-in_default-clause-value : goal.returns-in_default-clause-value
returns-in_default-clause-value c = no_sign c.args.s.now c.args.at (grind (arith, common_steps, gets)) (grind (arith, common_steps, gets))

pub returns-in_default-2-clause-value : goal.returns-in_default-2-clause-value
returns-in_default-2-clause-value c = sign_past c.args.s.now c.args.at (grind (arith, common_steps, gets))
