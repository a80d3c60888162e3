-- One answer: any two results of `outline` that its contract allows are the same, and so are the rows that they speak of. The rows behind them may be
-- anything: nothing is promised of them.
use mathlib.Core.Path.{◌≡◌, sym, ap, ◌∙◌}
use mathlib.Core.List.{List}
use Prim.Native.Nat.{ℕ, ◌*◌}
use lib.IntN.{ℤ}
use lib.ListN.{take}
use Rattle.std.specs.Prelude.{Result, Ok, Err}
use Rattle.cdi.specs.Faults.{Fault, Answer}
use Rattle.cdi.proofs.Quiet.{impossible, same_accepted}
use Rattle.refusals.specs.declared.Refusal.{Refusal}
use Rattle.refusals.specs.Refusals.{refusal, fault_of}
use Rattle.plan_stages.specs.declared.Planned.{Planned}
use Rattle.plan_stages.specs.Outlines.{Outline, sizes, said_of}

said_alike : (r q : Result Planned Refusal) (t u : List ℤ) → said_of r t ≡ said_of q u → r ≡ q
unfolding said_of
said_alike (Ok d) (Ok e) t u k = ap (λ (o : Outline). Ok (sizes o.records o.variables)) (same_accepted k)
said_alike (Ok d) (Err f) t u k = impossible (cc)
said_alike (Err f) (Ok d) t u k = impossible (cc)
said_alike (Err f) (Err g) t u k = let w : fault_of f ≡ fault_of g = cc in ap (λ (x : Fault). Err (refusal x.number x.place)) w

-- `o` is what the content describes
module _ (o : Answer Outline) where
  pub outline_once : (r q : Result Planned Refusal) (t u : List ℤ) → said_of r t ≡ o → said_of q u ≡ o → r ≡ q
  outline_once r q t u e f = said_alike r q t u (e ∙ sym f)

  -- of plan_outline::outline
  pub rows_once : (n v : ℕ) (t u : List ℤ) → said_of (Ok (sizes n v)) t ≡ o → said_of (Ok (sizes n v)) u ≡ o → take (8 * n) t ≡ take (8 * n) u
  unfolding said_of
  rows_once n v t u e f = ap (λ (i : Outline). i.rows) (same_accepted (e ∙ sym f))
