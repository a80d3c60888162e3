-- One answer: any two outcomes that the contract of `restore` allows, the answer and the output, are equal. (The backup is only read.)
use Rattle.std.proofs.Common.{◌≡◌, sym, ap, ◌∙◌, List, ℕ, Result, Ok, Err}
use Rattle.cdi.proofs.Quiet.{impossible, same_accepted, same_refused}
use Rattle.refusals.specs.declared.Refusal.{Refusal}
use Rattle.refusals.proofs.Once.{same_refusal}
use Rattle.blocks.specs.Backups.{Restored, restoring, after_restoring}
use Rattle.backups_reading.specs.Told.{read_of}
use Rattle.backups_reading.specs.declared.Read.{Read}

one_case : (r s : Result Read Refusal) → read_of r ≡ read_of s → r ≡ s
unfolding read_of
one_case (Ok a) (Ok b) e =
    let f = same_accepted e in
    let u = ap (λ (x : Restored). x.size) f in
    let v = ap (λ (x : Restored). x.space) f in
    let g : a ≡ b = λ i. record { size = u i; space = v i } in
    ap Ok g
one_case (Ok a) (Err s) e = impossible (cc)
one_case (Err r) (Ok b) e = impossible (cc)
one_case (Err r) (Err s) e = ap Err (same_refusal r s (same_refused e))

pub restore_once : (b o : List ℕ) (r s : Result Read Refusal) (p q : List ℕ)
    → read_of r ≡ restoring b o → p ≡ after_restoring b o
    → read_of s ≡ restoring b o → q ≡ after_restoring b o
    → (r ≡ s) × (p ≡ q)
restore_once b o r s p q a b' c d = (one_case r s (a ∙ sym c), b' ∙ sym d)
