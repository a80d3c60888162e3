use borrow.Author.Rules.{rules}
use Rattle.marks_ends.proofs.Ending.{end-tags}
use Rattle.marks_ends.proofs.end_tag.Statement.{statement}
use Rattle.marks_ends.proofs.end_tag.Tie as tie

pub end-tag-spec : {M : Type 1} → statement M
end-tag-spec =
    tie.close (tie.spec
    (λ c. search rules)
    (λ c κs. search rules)
    (λ c. search rules)
    (λ c. search end-tags)
    (λ c κs. search rules)
    (λ c κs. search rules)
    (λ c. search rules)
    (λ c. search end-tags)
    (λ c. search end-tags))
