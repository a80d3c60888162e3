use borrow.Author.Rules.{rules}
use Rattle.pieces_characters.proofs.Numbering.{encodings}
use Rattle.pieces_characters.proofs.utf8.Statement.{statement}
use Rattle.pieces_characters.proofs.utf8.Tie as tie

pub utf8_spec : {M : Type 1} → statement M
utf8_spec =
    tie.close (tie.spec
    (λ c. search rules)
    (λ c. search encodings)
    (λ c. search rules)
    (λ c. search rules)
    (λ c. search rules)
    (λ c. search rules)
    (λ c. search encodings)
    (λ c. search rules)
    (λ c. search rules)
    (λ c. search rules)
    (λ c. search rules)
    (λ c. search rules)
    (λ c. search rules)
    (λ c. search encodings)
    (λ c. search rules)
    (λ c. search rules)
    (λ c. search rules)
    (λ c. search rules)
    (λ c. search rules)
    (λ c. search rules)
    (λ c. search rules)
    (λ c. search rules)
    (λ c. search encodings)
    (λ c. search encodings))
