-- One answer: any two outcomes that a public function's contract allows are equal. (The table is only read.)
use mathlib.Core.Path.{◌≡◌, refl, sym, ap, ◌∙◌}
use mathlib.Core.List.{List}
use mathlib.Core.Bool.{Bool}
use Prim.Native.Nat.{ℕ}
use native.Mathlib.Omega.{arith}
use native.Mathlib.Decide.{ℕ_discrete}
use lib.IntN.{ℤ}
use Rattle.cdi.specs.Faults.{Fault}
use Rattle.cdi.specs.Faults.Answer.{accepted, refused}
use Rattle.cdi.specs.Walk.{Found}
use Rattle.cdi.specs.Plans.{segments_of, is_plan, variable_of, locating}
use Rattle.cdi.proofs.Quiet.{same_accepted, same_refused}
use Rattle.locate.specs.Answers.{told_of, found_as}
use Rattle.locate_ways.specs.Finding.{standing, Finds}
use Rattle.std.specs.Prelude.{Result, Ok, Err}
use Rattle.locate.specs.declared.Variable.{Variable}
use Rattle.locate.specs.declared.Absent.{Absent}
use Rattle.locate.specs.declared.Absent.TheVariants.{NotAPlan, NoVariable}
use Rattle.locate.proofs.Segments.{told_none, told_is}

-- a contract that is an equation allows one answer: so for every function of the modules `table`, `ranges` and `inside` but `find_in`
pub once : {A : Type 0} {x y z : A} → x ≡ z → y ≡ z → x ≡ y
once p q = p ∙ sym q

-- ── different answers of the code say different things ──

apart : (f : Found) (g : Fault) → accepted f ≡ refused g → ⊥
apart f g e = let z : ◌≡◌ {A = ℕ} 0 1 = cc in omega arith

abbrev variable_as : Found → Variable
variable_as x = record { «record» = x.number; space = x.space; address = x.address; size = x.size; kind = x.kind }

pub one_case : (r s : Result Variable Absent) → told_of r ≡ told_of s → r ≡ s
unfolding told_of
one_case (Ok v) (Ok w) e = ap (λ (x : Found). Ok (variable_as x)) (same_accepted {x = found_as v} {y = found_as w} e)
one_case (Ok v) (Err NotAPlan) e = absurd (apart _ _ e)
one_case (Ok v) (Err NoVariable) e = absurd (apart _ _ e)
one_case (Err NotAPlan) (Ok v) e = absurd (apart _ _ (sym e))
one_case (Err NotAPlan) (Err NotAPlan) e = refl
one_case (Err NotAPlan) (Err NoVariable) e = let f = ap (λ (x : Fault). x.number) (same_refused e) in absurd (omega arith)
one_case (Err NoVariable) (Ok v) e = absurd (apart _ _ (sym e))
one_case (Err NoVariable) (Err NotAPlan) e = let f = ap (λ (x : Fault). x.number) (same_refused e) in absurd (omega arith)
one_case (Err NoVariable) (Err NoVariable) e = refl

-- ── the public functions ──

pub is_plan_once : (t : List ℤ) (r s : Bool) → r ≡ is_plan t → s ≡ is_plan t → r ≡ s
is_plan_once t r s p q = once p q

pub find_once : (t : List ℤ) (n : ℕ) (r s : Result Variable Absent) → told_of r ≡ variable_of (segments_of t) n → told_of s ≡ variable_of (segments_of t) n → r ≡ s
find_once t n r s p q = one_case r s (once p q)

pub locate_once : (t : List ℤ) (n : ℕ) (r s : Result Variable Absent) → told_of r ≡ locating t n → told_of s ≡ locating t n → r ≡ s
locate_once t n r s p q = one_case r s (once p q)

-- of locate_ways::find_in
pub find_in_once : (t : List ℤ) (i e a n r s : ℕ) → Finds t i e a n r → Finds t i e a n s → r ≡ s
unfolding told_of
find_in_once t i e a n r s p q = by (ℕ_discrete r 18446744073709551615) (ℕ_discrete s 18446744073709551615)
  where
    same : standing t 0 r ≡ standing t 0 s
    same = once (p.same 0) (q.same 0)

    by : Dec (r ≡ 18446744073709551615) → Dec (s ≡ 18446744073709551615) → r ≡ s
    by (yes x) (yes y) = once x y
    by (yes x) (no y) = absurd (apart _ _ (told_is y t 0 refl refl ∙ sym same ∙ sym (told_none t 0 x)))
    by (no x) (yes y) = absurd (apart _ _ (told_is x t 0 refl refl ∙ same ∙ sym (told_none t 0 y)))
    by (no x) (no y) =
        let f = same_accepted (told_is x t 0 refl refl ∙ same ∙ sym (told_is y t 0 refl refl)) in
        omega (arith, ap (λ (z : Found). z.number) f, ap (λ (z : Found). z.address) f)
