use borrow.Author.Rules.{rules}
use Rattle.access_writing.specs.Told.{written_of}
use Rattle.outcomes.specs.Outcomes.{number_in, place_after}
use Rattle.outcomes.proofs.Telling.{number_by_law, place_by}
use Rattle.planksling_out.proofs.tell_written.Statement.{statement}
use Rattle.planksling_out.proofs.tell_written.Tie as tie

pub tell_written_spec : {M : Type 1} → statement M
unfolding number_in place_after written_of
tell_written_spec =
    tie.close (tie.spec
    (λ c. search rules)
    (λ c. search rules)
    (λ c. (search (number_by_law written_of, rules), search (place_by written_of, rules)))
    (λ c. (search (number_by_law written_of, rules), search (place_by written_of, rules))))
