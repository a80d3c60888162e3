-- One answer: two results that say the same are equal, where the values that they accept with are.
use Rattle.std.proofs.Common.{◌≡◌, ap, Result, Ok, Err}
use Rattle.cdi.specs.Faults.{Fault}
use Rattle.cdi.proofs.Quiet.{impossible, same_accepted, same_refused}
use Rattle.refusals.specs.Refusals.{fault_of, answer_by}
use Rattle.refusals.specs.declared.Refusal.{Refusal}

pub same_refusal : (r s : Refusal) → fault_of r ≡ fault_of s → r ≡ s
same_refusal r s e =
    let n = ap (λ (x : Fault). x.number) e in
    let p = ap (λ (x : Fault). x.place) e in
    λ i. record { number = n i; place = p i }

pub one_result : {A B : Type 0} (f : A → B) (same : (a b : A) → f a ≡ f b → a ≡ b) (r s : Result A Refusal) → answer_by f r ≡ answer_by f s → r ≡ s
unfolding answer_by
one_result f same (Ok a) (Ok b) e = ap Ok (same a b (same_accepted e))
one_result f same (Ok a) (Err s) e = impossible (cc)
one_result f same (Err r) (Ok b) e = impossible (cc)
one_result f same (Err r) (Err s) e = ap Err (same_refusal r s (same_refused e))
