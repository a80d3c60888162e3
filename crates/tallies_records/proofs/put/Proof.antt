use borrow.Author.Rules.{rules}
use lib.ListN.{length-set}
use Rattle.tallies_records.proofs.Rows.{writing}
use Rattle.tallies_records.proofs.put.Statement.{statement}
use Rattle.tallies_records.proofs.put.Tie as tie

pub put_spec : {M : Type 1} → statement M
put_spec =
    tie.close (tie.spec
    (λ c. search rules)
    (λ c. search rules)
    (λ c. search rules)
    (λ c. search rules)
    (λ c. search rules)
    (λ c. search rules)
    (λ c. simp length-set (search rules))
    (λ c. search rules)
    (λ c. search rules)
    (λ c. simp length-set (search rules))
    (λ c. search rules)
    (λ c. search rules)
    (λ c. search rules)
    (λ c. simp length-set (search rules))
    (λ c. search rules)
    (λ c. search rules)
    (λ c. search rules)
    (λ c. simp length-set (search rules))
    (λ c. search rules)
    (λ c. search rules)
    (λ c. search rules)
    (λ c. simp length-set (search rules))
    (λ c. search rules)
    (λ c. search rules)
    (λ c. search rules)
    (λ c. simp length-set (search rules))
    (λ c. search rules)
    (λ c. search rules)
    (λ c. search writing)
    (λ c. search rules)
    (λ c. search rules)
    (λ c. simp length-set (search rules))
    (λ c. search writing)
    (λ c. search writing))
