use borrow.Author.Rules.{rules}
use Rattle.judges_leave.proofs.Leaving.{said_faults_law}
use Rattle.judges_leave.proofs.said_blame.Statement.{statement}
use Rattle.judges_leave.proofs.said_blame.Tie as tie

pub said_blame_spec : {M : Type 1} → statement M
said_blame_spec =
    tie.close (tie.spec
    (λ c κs. search rules)
    (λ c. search said_faults_law)
    (λ c κs. search rules)
    (λ c. search said_faults_law)
    (λ c. search said_faults_law))
