-- The parts of leaving an element, as the code does it.
use mathlib.Core.Path.{◌≡◌, refl, ◌∙◌}
use mathlib.Core.Bool.{Bool, true, false}
use Prim.Native.Nat.{ℕ, ◌^◌, ◌≤◌, ◌<◌}
use native.Mathlib.Omega.{arith}
use borrow.Author.Rules.{rules}
use borrow.Author.Tests.{eq-eqb, ne_eqb}
use lib.Dec.{T}
use lib.IntN.{ℤ, pos, nat_abs}
use lib.Signed.{non_neg}
use mir.Syntax.{w64}
use mir.Val.{SFits, Fits}
use Rattle.cdi.specs.Rules.{natural}
use Rattle.extent.specs.Reach.{extent, by_offset, by_size, join, repeat, held}
use Rattle.extent.specs.declared.Extent.{Extent}
use Rattle.extent.proofs.Signed.{read, read_is}
use Rattle.extent.proofs.Holding.{holds_all}
use Rattle.tally_tag.specs.Tallying.{first_leaving}
use Rattle.tally_tag.specs.Numbered.{own_by}
use Rattle.tags_numbers.specs.declared.Given.{Given}
use Rattle.tags_numbers.specs.Given.{Bounded, numbers_of}
use Rattle.tallies_state.specs.Flat.{leaves_of}

-- ── the extent of a data element ──

module _ (k : ℕ) (m : Given) (inside : Extent) {r a : Extent} (f : SFits w64 m.address) (p : a ≡ held (by_offset (read m.address))) where
  pub own_group : {b : Extent} → k ≡ 5 → b ≡ held (repeat m.copies inside) → r ≡ held (join a b) → r ≡ own_by k (numbers_of m) inside
  unfolding own_by numbers_of
  own_group e q h = h ∙ rw (p, q, read_is m.address f, eq-eqb k 5 e)

  pub own_variable : (k ≡ 5 → ⊥) → m.width ≤ 65535 → r ≡ held (join a (extent 1 0 m.width m.width)) → r ≡ own_by k (numbers_of m) inside
  unfolding own_by numbers_of by_size
  own_variable e w h = h ∙ rw (p, ← holds_all 1 0 m.width m.width (omega arith) (omega arith), read_is m.address f, ne_eqb k 5 e)

pub ruleset owning = (own_group, own_variable, rules)

-- ── a segment's origin ──

module _ (m : Given) (f : SFits w64 m.address) (h : Bounded 4 m) where
  plainly : (z : ℤ) → z ≡ pos (natural z) → natural z ≤ 2147483647 → (T (non_neg z) × Fits w64 (nat_abs z)) × (nat_abs z ≡ natural z)
  plainly z e l = rw e ((tt, record { fits = omega arith }), unfold natural in refl)

  plain : (T (non_neg m.address) × Fits w64 (nat_abs m.address)) × (nat_abs m.address ≡ natural m.address)
  plain = plainly m.address (h.above refl) h.rises

  pub origin_sign : T (non_neg (read m.address))
  origin_sign = rw (read_is m.address f) plain.0.0

  pub origin_size : Fits w64 (nat_abs (read m.address))
  origin_size = rw (read_is m.address f) plain.0.1

  pub origin_is : nat_abs (read m.address) ≡ natural m.address
  origin_is = rw (read_is m.address f) plain.1

  pub origin_most : nat_abs (read m.address) ≤ 2147483647
  origin_most = omega (arith, origin_is, h.rises)

pub ruleset origins = (origin_sign, origin_size, origin_is, origin_most, rules)

-- ── the first segment that leaves the addresses ──

module _ (keeps : Bool) (p l : ℕ) where
  pub keeping : l ≡ 18446744073709551615 → keeps ≡ true → leaves_of 18446744073709551615 ≡ first_leaving keeps p (leaves_of l)
  unfolding leaves_of first_leaving
  keeping e f = rw (e, f)

  pub leaving : p < 2 ^ 63 → l ≡ 18446744073709551615 → keeps ≡ false → leaves_of p ≡ first_leaving keeps p (leaves_of l)
  unfolding leaves_of first_leaving
  leaving h e f = rw (ne_eqb p 18446744073709551615 (λ q. omega arith), e, f)

  pub already : (l ≡ 18446744073709551615 → ⊥) → leaves_of l ≡ first_leaving keeps p (leaves_of l)
  unfolding leaves_of first_leaving
  already e = rw (ne_eqb l 18446744073709551615 e)

pub ruleset leavings = (keeping, leaving, already, rules)
