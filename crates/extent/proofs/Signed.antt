-- What a 64-bit signed number adds, and what it takes away.
use mathlib.Core.Path.{◌≡◌, refl, sym, ◌∙◌}
use mathlib.Core.Bool.{true, false, true≢false}
use Prim.Native.Nat.{ℕ, zero, suc, ◌^◌, ◌≤◌, ◌<◌}
use native.Mathlib.Omega.{arith}
use borrow.Author.Tests.{ltb-true}
use lib.Dec.{T}
use lib.IntN.{ℤ, pos, negsuc, neg_ℤ, nat_abs}
use lib.Signed.{lt_z, non_neg}
use mir.Syntax.{w64}
use mir.Val.{SFits, Fits, to_z, of_z}
use mir.ValLaws.{to_z-of_z}
use Rattle.cdi.specs.Rules.{natural}
use Rattle.cdi.proofs.Signs.{up, down}

-- the two parts of a number, as the laws of `omega` name them
pub rise_up : (z : ℤ) → natural z ≡ up z
unfolding natural up
rise_up (pos n) = refl
rise_up (negsuc n) = refl

pub fall_down : (z : ℤ) → natural (neg_ℤ z) ≡ down z
unfolding natural down
fall_down (pos zero) = refl
fall_down (pos (suc n)) = refl
fall_down (negsuc n) = refl

-- the number as a callee reads it
abbrev pub read : ℤ → ℤ
read z = to_z w64 (of_z w64 z)

pub read_is : (z : ℤ) → SFits w64 z → read z ≡ z
read_is z g = to_z-of_z w64 z g

-- ── by the sign ──

negated : (z : ℤ) → lt_z z (pos 0) ≡ true → nat_abs z ≡ natural (neg_ℤ z)
unfolding natural
negated (pos n) e = absurd (omega (arith, ltb-true n 0 e))
negated (negsuc n) e = refl

-- a number that isn't negative
record Plain (z : ℤ) : Type 0 where
  sign : T (non_neg z)
  size : Fits w64 (nat_abs z)
  rises : nat_abs z ≡ natural z
  most : nat_abs z < 2 ^ 63
  falls : 0 ≡ natural (neg_ℤ z)

plain : (z : ℤ) → SFits w64 z → lt_z z (pos 0) ≡ false → Plain z
unfolding natural down
plain (pos n) g e = record {
  sign = tt;
  size = record { fits = omega (arith, g.sfits) };
  rises = refl;
  most = g.sfits;
  falls = sym (fall_down (pos n));
}
plain (negsuc n) g e = absurd (true≢false e)

negative : (z : ℤ) → lt_z z (pos 0) ≡ true → 0 ≡ natural z
unfolding natural
negative (pos n) e = absurd (omega (arith, ltb-true n 0 e))
negative (negsuc n) e = refl

-- ── as the code asks for it ──

module _ (z : ℤ) (g : SFits w64 z) where
  module _ (e : lt_z (read z) (pos 0) ≡ true) where
    below : lt_z z (pos 0) ≡ true
    below = rw (read_is z g) at e

    pub falls : {m : ℕ} → m ≡ nat_abs (read z) → m ≡ natural (neg_ℤ z)
    falls h = h ∙ rw (read_is z g) (negated z below)

    pub rises_not : (0 ≡ natural z) × (0 < 2 ^ 63)
    rises_not = (negative z below, omega arith)

  module _ (e : lt_z (read z) (pos 0) ≡ false) where
    above : lt_z z (pos 0) ≡ false
    above = rw (read_is z g) at e

    pub casts : T (non_neg (read z)) × Fits w64 (nat_abs (read z))
    casts = rw (read_is z g) ((plain z g above).sign, (plain z g above).size)

    pub rises : (nat_abs (read z) ≡ natural z) × (nat_abs (read z) < 2 ^ 63)
    rises = rw (read_is z g) ((plain z g above).rises, (plain z g above).most)

    pub falls_not : (0 ≡ natural (neg_ℤ z)) × (0 ≤ 2 ^ 63)
    falls_not = ((plain z g above).falls, omega arith)
