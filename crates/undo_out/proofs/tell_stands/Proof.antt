use borrow.Author.Rules.{rules}
use Rattle.outcomes.specs.Outcomes.{number_in, place_after, value_after}
use Rattle.outcomes.proofs.Telling.{number_by_law, place_by, value_by}
use Rattle.undo_edit.specs.Told.{outcome_of}
use Rattle.undo_out.proofs.tell_stands.Statement.{statement}
use Rattle.undo_out.proofs.tell_stands.Tie as tie

pub tell_stands_spec : {M : Type 1} → statement M
unfolding number_in place_after value_after outcome_of
tell_stands_spec =
    tie.close (tie.spec
    (λ c. search rules)
    (λ c. search rules)
    (λ c. (search (number_by_law outcome_of, rules), (search (value_by outcome_of, rules), search (place_by outcome_of, rules))))
    (λ c. (search (number_by_law outcome_of, rules), (search (value_by outcome_of, rules), search (place_by outcome_of, rules)))))
