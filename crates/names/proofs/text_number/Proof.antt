use borrow.Author.Rules.{rules}
use Rattle.names.proofs.Positions.{in_turn_law}
use Rattle.names.proofs.text_number.Statement.{statement}
use Rattle.names.proofs.text_number.Tie as tie

pub text_number_spec : {M : Type 1} → statement M
text_number_spec =
    tie.close (tie.spec
    (λ c κs. search rules)
    (λ c κs. search rules)
    (λ c. search in_turn_law)
    (λ c. search in_turn_law))
