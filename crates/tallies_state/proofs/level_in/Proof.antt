use borrow.Author.Rules.{rules}
use Rattle.scan.proofs.Tests.{tests, calls}
use Rattle.tally_tag.specs.Numbered.{level_by}
use Rattle.tallies_state.proofs.level_in.Statement.{statement}
use Rattle.tallies_state.proofs.level_in.Tie as tie

pub level_in_spec : {M : Type 1} → statement M
unfolding level_by
level_in_spec =
    tie.close (tie.spec
    (λ c. search (tests, calls))
    (λ c κs. search rules)
    (λ c. search (tests, calls))
    (λ c. search (tests, calls)))
