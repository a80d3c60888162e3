use borrow.Author.Rules.{rules}
use Rattle.tags.proofs.Tagged.{bare_tags}
use Rattle.tags.proofs.start_tag.Statement.{statement}
use Rattle.tags.proofs.start_tag.Tie as tie

pub start_tag_spec : {M : Type 1} → statement M
start_tag_spec =
    tie.close (tie.spec
    (λ c κs. search rules)
    (λ c κs. search rules)
    (λ c. search rules)
    (λ c κs. search rules)
    (λ c κs. search rules)
    (λ c. search bare_tags)
    (λ c κs. search rules)
    (λ c. search rules))
