-- A key with a fault more is the least with that fault more.
use mathlib.Core.Path.{◌≡◌, refl, sym, ap, ◌∙◌}
use mathlib.Core.List.{List, [], ◌∷◌}
use mathlib.Core.Option.{Option, none, some}
use Prim.Native.Nat.{ℕ}
use Rattle.cdi.specs.Faults.{Fault, fault, lesser, least}
use Rattle.keys.specs.Keys.{fault_in}
use Rattle.rules_judge.specs.Judging.{as_fault, to_least, blamed}
use Rattle.rules_judge.proofs.Blaming.{blamed_none}
use Rattle.judges_state.specs.Decoded.{least_in}
use Rattle.judges_state.specs.Steps.{faults_of}

-- what the key of a fault says is what the judge keeps
back : (o : Option Fault) → as_fault (to_least o) ≡ o
unfolding as_fault to_least
back none = refl
back (some f) = refl

-- some faults
pub key_blamed_with : (r l : ℕ) (fs : List Fault) → fault_in r ≡ lesser (fault_in l) (least fs) → least_in r ≡ blamed (least_in l) fs
unfolding least_in blamed
key_blamed_with r l fs e = ap to_least (e ∙ ap (λ o. lesser o (least fs)) (sym (back (fault_in l))))

-- one fault
pub key_blamed : (r l n p : ℕ) (fs : List Fault) → fs ≡ fault n p ∷ [] → fault_in r ≡ lesser (fault_in l) (some (fault n p)) → least_in r ≡ blamed (least_in l) fs
unfolding least lesser
key_blamed r l n p fs f e = key_blamed_with r l (fault n p ∷ []) e ∙ ap (blamed (least_in l)) (sym f)

-- none
pub key_kept : (l : ℕ) (fs : List Fault) → fs ≡ [] → least_in l ≡ blamed (least_in l) fs
key_kept l fs e = blamed_none (least_in l) ∙ ap (blamed (least_in l)) (sym e)

-- the least of one fault or none
pub one_least : (o : Option Fault) → least (faults_of o) ≡ o
unfolding faults_of least lesser
one_least none = refl
one_least (some f) = refl
