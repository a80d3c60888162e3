use native.Mathlib.Omega.{arith}
use lib.ListN.{length-set}
use Rattle.listing_fill.proofs.Batches.{store_is}
use borrow.Author.Rules.{rules}
use Rattle.listing_fill.proofs.store.Statement.{statement}
use Rattle.listing_fill.proofs.store.Tie as tie

pub store_spec : {M : Type 1} → statement M
store_spec =
    tie.close (tie.spec
    (λ c. search rules)
    (λ c. search rules)
    (λ c. search rules)
    (λ c. search rules)
    (λ c. search rules)
    (λ c. simp length-set (omega arith))
    (λ c. search rules)
    (λ c. search rules)
    (λ c. simp length-set (omega arith))
    (λ c. search rules)
    (λ c. search rules)
    (λ c. simp length-set (omega arith))
    (λ c. search rules)
    (λ c. search rules)
    (λ c. simp length-set (omega arith))
    (λ c. search rules)
    (λ c. store_is _ _ _ _ _ _ _))
