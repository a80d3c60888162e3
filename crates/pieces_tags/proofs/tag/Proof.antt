use borrow.Author.Rules.{rules}
use Rattle.pieces_tags.proofs.Tagging.{a_start_tag}
use Rattle.pieces_tags.proofs.tag.Statement.{statement}
use Rattle.pieces_tags.proofs.tag.Tie as tie

pub tag_spec : {M : Type 1} → statement M
tag_spec =
    tie.close (tie.spec
    (λ c. search a_start_tag)
    (λ c κs. search rules)
    (λ c κs. search rules)
    (λ c. search a_start_tag)
    (λ c κs. search rules)
    (λ c. search a_start_tag))
