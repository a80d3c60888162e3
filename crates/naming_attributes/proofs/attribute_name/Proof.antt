use borrow.Author.Rules.{rules}
use Rattle.naming_attributes.proofs.Naming.{looked_up, compared}
use Rattle.naming_attributes.proofs.attribute_name.Statement.{statement}
use Rattle.naming_attributes.proofs.attribute_name.Tie as tie

pub attribute_name_spec : {M : Type 1} → statement M
attribute_name_spec =
    tie.close (tie.spec
    (λ c κs. search rules)
    (λ c κs. search rules)
    (λ c κs. search rules)
    (λ c. search rules)
    (λ c. search rules)
    (λ c. search rules)
    (λ c κs. search rules)
    (λ c. search looked_up)
    (λ c. search compared))
