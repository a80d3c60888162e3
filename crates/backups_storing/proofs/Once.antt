-- One answer: any two outcomes that the contract of `store` allows, the answer and the output, are equal. (The window is only read.)
use Rattle.std.proofs.Common.{◌≡◌, sym, ap, ◌∙◌, List, ℕ, Result, Ok, Err}
use Rattle.cdi.proofs.Quiet.{impossible, same_accepted, same_refused}
use Rattle.refusals.specs.declared.Refusal.{Refusal}
use Rattle.refusals.proofs.Once.{same_refusal}
use Rattle.blocks.specs.Backups.{kept, storing, after_storing}
use Rattle.backups_storing.specs.Told.{stored_of}

one_case : (r s : Result ℕ Refusal) → stored_of r ≡ stored_of s → r ≡ s
unfolding stored_of
one_case (Ok n) (Ok m) e = ap Ok (same_accepted e)
one_case (Ok n) (Err s) e = impossible (cc)
one_case (Err r) (Ok m) e = impossible (cc)
one_case (Err r) (Err s) e = ap Err (same_refusal r s (same_refused e))

pub store_once : (sp : ℕ) (w o : List ℕ) (r s : Result ℕ Refusal) (p q : List ℕ)
    → stored_of r ≡ storing (kept sp w) o → p ≡ after_storing (kept sp w) o
    → stored_of s ≡ storing (kept sp w) o → q ≡ after_storing (kept sp w) o
    → (r ≡ s) × (p ≡ q)
store_once sp w o r s p q a b c d = (one_case r s (a ∙ sym c), b ∙ sym d)
