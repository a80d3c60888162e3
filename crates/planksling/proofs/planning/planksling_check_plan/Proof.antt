use borrow.Author.Rules.{rules}
use Rattle.planksling.proofs.Calls.{testing}
use Rattle.planksling.proofs.planning.planksling_check_plan.Statement.{statement}
use Rattle.planksling.proofs.planning.planksling_check_plan.Tie as tie

pub planksling_check_plan_spec : {M : Type 1} → statement M
planksling_check_plan_spec =
    tie.close (tie.spec
    (λ c κs. search rules)
    (λ c. search testing)
    (λ c. search testing))
