-- One answer each: a contract tells the fault of the key, and a fault has one key.
use mathlib.Core.Path.{◌≡◌, refl, sym, ap, ◌∙◌}
use mathlib.Core.Bool.{Bool, true, false, cond}
use mathlib.Core.Option.{none, some}
use Prim.Native.Nat.{ℕ, ◌/◌, ◌%◌}
use native.Mathlib.Omega.{arith}
use borrow.Author.Tests.{eqb-true}
use lib.Dec.{eqb}
use Rattle.cdi.specs.Faults.{Fault, fault, unless, rank, lesser, least}
use Rattle.cdi.proofs.Quiet.{impossible}
use Rattle.keys.specs.Keys.{number_of, fault_in}
use Rattle.keys.proofs.Keying.{rank_back}

-- a fault has one key
pub key_once : (q r : ℕ) → fault_in q ≡ fault_in r → q ≡ r
unfolding fault_in
key_once q r e = by (eqb q 0xFFFF_FFFF_FFFF_FFFF) refl (eqb r 0xFFFF_FFFF_FFFF_FFFF) refl e
  where
    one : some (fault (number_of (q % 128)) (q / 128)) ≡ some (fault (number_of (r % 128)) (r / 128)) → q ≡ r
    one e =
        let f : fault (number_of (q % 128)) (q / 128) ≡ fault (number_of (r % 128)) (r / 128) = cc in
        let m : number_of (q % 128) ≡ number_of (r % 128) = ap (λ (g : Fault). g.number) f in
        let n : q % 128 ≡ r % 128 = sym (rank_back (q % 128)) ∙ ap rank m ∙ rank_back (r % 128) in
        let p : q / 128 ≡ r / 128 = ap (λ (g : Fault). g.place) f in
        omega (arith, n, p)

    by : (a : Bool) → eqb q 0xFFFF_FFFF_FFFF_FFFF ≡ a → (b : Bool) → eqb r 0xFFFF_FFFF_FFFF_FFFF ≡ b
        → cond a none (some (fault (number_of (q % 128)) (q / 128))) ≡ cond b none (some (fault (number_of (r % 128)) (r / 128))) → q ≡ r
    by true x true y z = eqb-true q _ x ∙ sym (eqb-true r _ y)
    by true x false y z = impossible (cc)
    by false x true y z = impossible (cc)
    by false x false y z = one z

module _ (l n p q r : ℕ) where
  pub key_of_once : fault_in q ≡ some (fault n p) → fault_in r ≡ some (fault n p) → q ≡ r
  key_of_once e f = key_once q r (e ∙ sym f)

  pub first_of_once : (k : ℕ) → fault_in q ≡ lesser (fault_in l) (fault_in k) → fault_in r ≡ lesser (fault_in l) (fault_in k) → q ≡ r
  first_of_once k e f = key_once q r (e ∙ sym f)

  pub blame_once : fault_in q ≡ lesser (fault_in l) (some (fault n p)) → fault_in r ≡ lesser (fault_in l) (some (fault n p)) → q ≡ r
  blame_once e f = key_once q r (e ∙ sym f)

  pub blame_unless_once : (good : Bool) → fault_in q ≡ lesser (fault_in l) (least (unless good (fault n p))) → fault_in r ≡ lesser (fault_in l) (least (unless good (fault n p)))
      → q ≡ r
  blame_unless_once good e f = key_once q r (e ∙ sym f)
