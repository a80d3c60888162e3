use borrow.Author.Rules.{rules}
use Rattle.scan.proofs.Tests.{tests, calls}
use Rattle.tallies_state.proofs.records_with.Statement.{statement}
use Rattle.tallies_state.proofs.records_with.Tie as tie

pub records_with_spec : {M : Type 1} → statement M
records_with_spec =
    tie.close (tie.spec
    (λ c κs. search rules)
    (λ c. search rules)
    (λ c. search (tests, calls))
    (λ c. search (tests, calls)))
