use borrow.Author.Rules.{rules}
use Rattle.naming_elements.proofs.Naming.{looked_up, compared}
use Rattle.naming_elements.proofs.element_name.Statement.{statement}
use Rattle.naming_elements.proofs.element_name.Tie as tie

pub element_name_spec : {M : Type 1} → statement M
element_name_spec =
    tie.close (tie.spec
    (λ c κs. search rules)
    (λ c κs. search rules)
    (λ c κs. search rules)
    (λ c. search rules)
    (λ c. search rules)
    (λ c. search rules)
    (λ c κs. search rules)
    (λ c. search looked_up)
    (λ c. search compared))
