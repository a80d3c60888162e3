use borrow.Author.Rules.{rules}
use Rattle.naming_words.proofs.Whole.{word_ends}
use Rattle.naming_words.proofs.word_end.Statement.{statement}
use Rattle.naming_words.proofs.word_end.Tie as tie

pub word_end_spec : {M : Type 1} → statement M
word_end_spec =
    tie.close (tie.spec
    (λ c. search rules)
    (λ c. search word_ends)
    (λ c. search rules)
    (λ c κs. search rules)
    (λ c κs. search rules)
    (λ c κs. search rules)
    (λ c. search word_ends)
    (λ c. search word_ends)
    (λ c. search word_ends))
