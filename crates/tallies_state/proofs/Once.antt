-- One answer: any two tallies that a contract allows are the same. A tally is known by what it means and the root's place.
use mathlib.Core.Path.{◌≡◌, refl, sym, ap, ◌∙◌}
use mathlib.Core.Bool.{Bool, true, false, cond}
use Prim.Native.Nat.{ℕ}
use borrow.Author.Tests.{eqb-true}
use lib.Dec.{eqb}
use Rattle.cdi.proofs.Quiet.{impossible}
use Rattle.std.specs.Prelude.{Some, None}
use Rattle.tally_tag.specs.declared.Tally.{Tally as Known}
use Rattle.tally_tag.specs.Tallying.{Leaves, at_start}
use Rattle.tally_tag.specs.Numbered.{enter_by}
use Rattle.extent.specs.declared.Extent.{Extent}
use Rattle.tallies_state.specs.declared.Tally.{Tally}
use Rattle.tallies_state.specs.Flat.{leaves_of, tally_of}

-- a place is known by what it says of the first segment that leaves
pub leaves_known : (p q : ℕ) → leaves_of p ≡ leaves_of q → p ≡ q
unfolding leaves_of
leaves_known p q e = by (eqb p 18446744073709551615) refl (eqb q 18446744073709551615) refl e
  where
    either : Bool → ℕ → Leaves
    either b n = cond b None (Some n)

    by : (a : Bool) → eqb p 18446744073709551615 ≡ a → (b : Bool) → eqb q 18446744073709551615 ≡ b → either a p ≡ either b q → p ≡ q
    by true x true y z = eqb-true p _ x ∙ sym (eqb-true q _ y)
    by true x false y z = impossible (cc)
    by false x true y z = impossible (cc)
    by false x false y z = cc

abbrev tally : Extent → ℕ → ℕ → ℕ → ℕ → ℕ → Tally
tally e l n v p o = record { extent = e; level = l; records = n; total = v; leaves = p; root = o }

pub tally_known : (q r : Tally) → tally_of q ≡ tally_of r → q.root ≡ r.root → q ≡ r
unfolding tally_of
tally_known q r e o =
    ap (λ x. tally x q.level q.records q.total q.leaves q.root) (ap (λ (g : Known). g.extent) e)
    ∙ ap (λ x. tally r.extent x q.records q.total q.leaves q.root) (ap (λ (g : Known). g.level) e)
    ∙ ap (λ x. tally r.extent r.level x q.total q.leaves q.root) (ap (λ (g : Known). g.records) e)
    ∙ ap (λ x. tally r.extent r.level r.records x q.leaves q.root) (ap (λ (g : Known). g.total) e)
    ∙ ap (λ x. tally r.extent r.level r.records r.total x q.root) (leaves_known q.leaves r.leaves (ap (λ (g : Known). g.leaves) e))
    ∙ ap (tally r.extent r.level r.records r.total r.leaves) o

pub start_once : (q r : Tally) → tally_of q ≡ at_start → q.root ≡ 0 → tally_of r ≡ at_start → r.root ≡ 0 → q ≡ r
start_once q r e o f p = tally_known q r (e ∙ sym f) (o ∙ sym p)

pub enter_once : (g : Tally) (at element : ℕ) (q r : Tally) → tally_of q ≡ enter_by (tally_of g) element → q.root ≡ cond (eqb g.level 0) at g.root
    → tally_of r ≡ enter_by (tally_of g) element → r.root ≡ cond (eqb g.level 0) at g.root → q ≡ r
enter_once g at element q r e o f p = tally_known q r (e ∙ sym f) (o ∙ sym p)
