-- One answer: any two results that a contract allows are the same, and so is all lent memory that a result speaks of.
use mathlib.Core.Path.{◌≡◌, sym, ap, ◌∙◌}
use mathlib.Core.List.{List}
use Prim.Native.Nat.{ℕ}
use lib.IntN.{ℤ}
use Rattle.std.specs.Prelude.{Result, Ok, Err}
use Rattle.cdi.specs.Faults.{Fault}
use Rattle.cdi.specs.Planning.{Counts, planned, table_after}
use Rattle.cdi.proofs.Quiet.{impossible, same_accepted, same_refused}
use Rattle.refusals.specs.declared.Refusal.{Refusal}
use Rattle.refusals.specs.Refusals.{refusal}
use Rattle.plan_stages.specs.declared.Planned.{Planned}
use Rattle.plan_stages.specs.Outlines.{sizes, answer_of}

answer_alike : (r q : Result Planned Refusal) → answer_of r ≡ answer_of q → r ≡ q
unfolding answer_of
answer_alike (Ok d) (Ok g) e = ap (λ (c : Counts). Ok (sizes c.records c.variables)) (same_accepted e)
answer_alike (Ok d) (Err f) e = impossible (cc)
answer_alike (Err f) (Ok d) e = impossible (cc)
answer_alike (Err f) (Err g) e = ap (λ (x : Fault). Err (refusal x.number x.place)) (same_refused e)

module _ (b : List ℕ) where
  pub plan_once : (t : List ℤ) (r q : Result Planned Refusal) → answer_of r ≡ planned b t → answer_of q ≡ planned b t → r ≡ q
  plan_once t r q e f = answer_alike r q (e ∙ sym f)

  -- of plan::plan
  pub table_once : (t u v : List ℤ) → u ≡ table_after b t → v ≡ table_after b t → u ≡ v
  table_once t u v e f = e ∙ sym f
