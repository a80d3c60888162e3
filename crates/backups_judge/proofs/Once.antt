-- One answer: any two outcomes that the contract of `judge` or `first_bad` allows are equal. (The bytes are only read.)
use Rattle.std.proofs.Common.{◌≡◌, refl, sym, ap, ◌∙◌, List, ℕ, Result, Ok, Err}
use mathlib.Core.Option.{Option, none, some}
use Rattle.cdi.specs.Faults.{Fault, stage}
use Rattle.cdi.proofs.Quiet.{impossible, same_refused}
use Rattle.refusals.specs.Refusals.{fault_of}
use Rattle.refusals.specs.declared.Refusal.{Refusal}
use Rattle.refusals.proofs.Once.{same_refusal}
use Rattle.blocks.specs.Backups.{judging, first_bad}
use Rattle.backups_judge.specs.Told.{bad_of, judged_of}

same_some : (f g : Fault) → some f ≡ some g → f ≡ g
same_some f g e = cc

one_case : (r s : Result Unit Refusal) → bad_of r ≡ bad_of s → r ≡ s
unfolding bad_of
one_case (Ok u) (Ok v) e = refl
one_case (Ok u) (Err s) e = impossible (cc)
one_case (Err r) (Ok v) e = impossible (cc)
one_case (Err r) (Err s) e = ap Err (same_refusal r s (same_some (fault_of r) (fault_of s) e))

same_stage : (o q : Option Fault) → stage {A = Unit {0}} o tt ≡ stage q tt → o ≡ q
same_stage none none e = refl
same_stage none (some g) e = impossible (cc)
same_stage (some f) none e = impossible (cc)
same_stage (some f) (some g) e = ap (λ (x : Fault). some x) (same_refused e)

pub judge_once : (b : List ℕ) (position behind sp : ℕ) (r s : Result Unit Refusal) → judged_of r ≡ judging position behind sp b → judged_of s ≡ judging position behind sp b → r ≡ s
unfolding judged_of
judge_once b position behind sp r s p q = one_case r s (same_stage (bad_of r) (bad_of s) (p ∙ sym q))

pub first_bad_once : (b : List ℕ) (blocks sp : ℕ) (r s : Result Unit Refusal) → bad_of r ≡ first_bad 0 blocks sp b → bad_of s ≡ first_bad 0 blocks sp b → r ≡ s
first_bad_once b blocks sp r s p q = one_case r s (p ∙ sym q)
