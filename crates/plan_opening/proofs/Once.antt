-- One answer of stages 1 to 3.
use mathlib.Core.Path.{◌≡◌, sym, ap, ◌∙◌}
use mathlib.Core.List.{List}
use mathlib.Core.Option.{some}
use Prim.Native.Nat.{ℕ}
use Rattle.cdi.specs.Faults.{Fault, Answer}
use Rattle.cdi.proofs.Quiet.{impossible}
use Rattle.std.specs.Prelude.{Result, Ok, Err}
use Rattle.refusals.specs.declared.Refusal.{Refusal}
use Rattle.refusals.specs.Refusals.{refusal, fault_of}
use Rattle.plan_opening.specs.Openings.{opened_of, Ended}

opened_alike : (b : List ℕ) (r q : Result ℕ Refusal) → opened_of b r ≡ opened_of b q → Ended b r → Ended b q → r ≡ q
unfolding opened_of Ended
opened_alike b (Ok d) (Ok e) z x y = let w : some d ≡ some e = sym x.0 ∙ y.0 in let v : d ≡ e = cc in ap Ok v
opened_alike b (Ok d) (Err r) z x y = impossible (cc)
opened_alike b (Err r) (Ok e) z x y = impossible (cc)
opened_alike b (Err r) (Err q) z x y = let w : fault_of r ≡ fault_of q = cc in ap (λ (f : Fault). Err (refusal f.number f.place)) w

-- two answers of `open_text`
pub open_text_once : (b : List ℕ) (a : Answer (List ℕ)) (r q : Result ℕ Refusal) → opened_of b r ≡ a → opened_of b q ≡ a → Ended b r → Ended b q → r ≡ q
open_text_once b a r q e f = opened_alike b r q (e ∙ sym f)
