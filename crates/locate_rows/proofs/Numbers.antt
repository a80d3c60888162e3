-- A number of a table, through the calls that read it, and the tests of it.
use mathlib.Core.Path.{◌≡◌, refl, sym, ap, ◌∙◌}
use mathlib.Core.List.{List, [], ◌∷◌}
use mathlib.Core.Bool.{Bool, true, false, not, ◌&&◌, ◌||◌, false≢true}
use Prim.Native.Nat.{ℕ, zero, suc, ◌^◌, ◌≤◌, ◌<◌}
use native.Mathlib.Omega.{arith}
use borrow.Author.Rules.{rules}
use borrow.Author.Tests.{le-ltb, le-leb, leb-true, ne_eqb}
use lib.Dec.{T, eqb, leb}
use lib.IntN.{ℤ, pos, negsuc, neg_ℤ, nat_abs}
use lib.Signed.{lt_z, non_neg}
use mir.Syntax.{w64}
use mir.Val.{SFits, Fits}
use Rattle.cdi.specs.Lists.{any}
use Rattle.cdi.specs.Numbers.{within}
use Rattle.cdi.specs.Rules.{natural}
use Rattle.cdi.specs.Table.{same_number}
use Rattle.cdi.specs.Plans.{field, one_of, offset_fits}
use Rattle.cdi.proofs.Tests.{ends, both, both_left}
use Rattle.cdi.proofs.Signs.{same_number_law}
use Rattle.extent.proofs.Signed.{read, read_is, casts, rises}
use Rattle.extent.proofs.Reached.{iff}

-- what `if !test` tells
pub off : (a : Bool) → not a ≡ true → a ≡ false
off true h = sym h
off false h = refl

pub on : (a : Bool) → not a ≡ false → a ≡ true
on true h = refl
on false h = sym h

pub ruleset nots = (off, on)

-- ── read ──

module _ (t : List ℤ) (i f : ℕ) {z : ℤ} {r : ℕ} (g : SFits w64 z) (e : z ≡ field t i f) where
  pub rise_read : r ≡ natural (read z) → r ≡ natural (field t i f)
  rise_read h = h ∙ rw (read_is z g, e)

  pub fall_read : r ≡ natural (neg_ℤ (read z)) → r ≡ natural (neg_ℤ (field t i f))
  fall_read h = h ∙ rw (read_is z g, e)

pub ruleset reading = (rise_read, fall_read, rules)

-- ── read without a test of the sign ──

not_below : (z : ℤ) → natural (neg_ℤ z) ≤ 0 → lt_z z (pos 0) ≡ false
unfolding natural
not_below (pos n) h = le-ltb n 0 (omega arith)
not_below (negsuc n) h = absurd (omega arith)

module _ (t : List ℤ) (i f : ℕ) {z : ℤ} (g : SFits w64 z) (e : z ≡ field t i f) (h : natural (neg_ℤ (field t i f)) ≤ 0) where
  above : lt_z (read z) (pos 0) ≡ false
  above = rw (read_is z g, e) (not_below (field t i f) h)

  pub plain_sign : T (non_neg (read z))
  plain_sign = (casts z g above).0

  pub plain_size : Fits w64 (nat_abs (read z))
  plain_size = (casts z g above).1

  pub plain_read : nat_abs (read z) ≡ natural (field t i f)
  plain_read = (rises z g above).0 ∙ ap natural e

  pub plain_most : nat_abs (read z) < 2 ^ 63
  plain_most = (rises z g above).1

pub ruleset plainly = (plain_sign, plain_size, plain_read, plain_most, rules)

-- a number above another is none below zero
above_zero : (z : ℤ) {m : ℕ} → m < natural z → natural (neg_ℤ z) ≤ 0
unfolding natural
above_zero (pos zero) h = omega arith
above_zero (pos (suc n)) h = omega arith
above_zero (negsuc n) h = absurd (omega arith)

pub raised : (t : List ℤ) (i f : ℕ) {m : ℕ} → m < natural (field t i f) → natural (neg_ℤ (field t i f)) ≤ 0
raised t i f h = above_zero (field t i f) h

pub some_raised : (t : List ℤ) (i f : ℕ) → 1 ≤ natural (field t i f) → natural (neg_ℤ (field t i f)) ≤ 0
some_raised t i f h = above_zero (field t i f) {m = 0} (omega arith)

pub ruleset raising = (raised, some_raised, rules)

-- ── the tests by the two parts of a number ──

above_none : (n : ℕ) → eqb (suc n) 0 ≡ false
above_none n = ne_eqb (suc n) 0 (λ (e : suc n ≡ 0). omega arith)

pub lies_law : (lo hi : ℕ) (z : ℤ) → within (pos lo) (pos hi) z ≡ eqb (natural (neg_ℤ z)) 0 && leb lo (natural z) && leb (natural z) hi
unfolding within natural
lies_law lo hi (pos zero) = refl
lies_law lo hi (pos (suc n)) = refl
lies_law lo hi (negsuc n) = rw (above_none n)

pub equals_law : (n : ℕ) (z : ℤ) → same_number z (pos n) ≡ eqb (natural (neg_ℤ z)) 0 && eqb (natural z) n
unfolding same_number natural
equals_law n (pos zero) = refl
equals_law n (pos (suc m)) = refl
equals_law n (negsuc m) = rw (above_none m)

-- ── what a test that passes says ──

pub in_of : (lo hi : ℕ) (z : ℤ) → within (pos lo) (pos hi) z ≡ true → (lo ≤ natural z) × (natural z ≤ hi) × (z ≡ pos (natural z))
unfolding natural
in_of lo hi (pos n) h = let p = ends (pos lo) (pos hi) (pos n) h in (leb-true lo n p.0, leb-true n hi p.1, refl)
in_of lo hi (negsuc n) h = absurd (false≢true (ends (pos lo) (pos hi) (negsuc n) h).0)

or-false : (a : Bool) → (a || false) ≡ a
or-false true = refl
or-false false = refl

-- one number only
pub only : (n : ℕ) (z : ℤ) → one_of (n ∷ []) z ≡ same_number z (pos n)
unfolding one_of any
only n z = or-false (same_number z (pos n))

pub only_of : (n : ℕ) (z : ℤ) → one_of (n ∷ []) z ≡ true → natural z ≡ n
unfolding natural
only_of n z h = ap natural (same_number_law z (pos n) (sym (only n z) ∙ h))

-- ── offsets ──

pub offset_law : (z : ℤ) → offset_fits z ≡ leb (natural z) 2147483647 && leb (natural (neg_ℤ z)) 2147483648
unfolding offset_fits within natural
offset_law (pos zero) = refl
offset_law (pos (suc n)) = iff (leb (suc n) 2147483647) (leb (suc n) 2147483647 && true) (λ t. both t refl) (λ t. both_left (leb (suc n) 2147483647) true t)
offset_law (negsuc n) =
    iff (leb n 2147483647 && true) (leb (suc n) 2147483648)
    (λ t. le-leb (suc n) 2147483648 (omega (arith, leb-true n 2147483647 (both_left (leb n 2147483647) true t))))
    (λ t. both (le-leb n 2147483647 (omega (arith, leb-true (suc n) 2147483648 t))) refl)
