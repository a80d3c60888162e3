use borrow.Author.Rules.{rules}
use Rattle.judges_leave.proofs.Leaving.{content_faults_law}
use Rattle.judges_leave.proofs.content_blame.Statement.{statement}
use Rattle.judges_leave.proofs.content_blame.Tie as tie

pub content_blame_spec : {M : Type 1} → statement M
content_blame_spec =
    tie.close (tie.spec
    (λ c κs. search rules)
    (λ c. search content_faults_law)
    (λ c. search content_faults_law)
    (λ c κs. search rules)
    (λ c. search content_faults_law)
    (λ c. search content_faults_law)
    (λ c κs. search rules)
    (λ c κs. search rules)
    (λ c. search content_faults_law)
    (λ c. search content_faults_law))
