-- A number between an int's own bounds, whatever numbers these are.
use mathlib.Core.Path.{◌≡◌, refl, sym, ap, ◌∙◌}
use mathlib.Core.List.{List}
use mathlib.Core.Bool.{Bool, true, false}
use mathlib.Core.Option.{Option, none, some}
use mathlib.Core.Logic.{⊎_elim}
use Prim.Native.Nat.{ℕ, zero, suc, ◌-◌, ◌^◌, ◌≤◌, ◌<◌}
use native.Mathlib.Omega.{arith}
use borrow.Author.Rules.{rules}
use borrow.Author.Tests.{lt-ltb, le-ltb, le-leb, lt-leb}
use lib.IntN.{ℤ, pos, negsuc}
use lib.Signed.{le_z, lt_z}
use mir.Syntax.{w64}
use mir.Val.{Fits}
use Rattle.cdi.specs.Lists.{ascii, given}
use Rattle.cdi.specs.Numbers.{within}
use Rattle.cdi.specs.Rules.{bound_of, is_signed, largest, bounds_of}
use Rattle.cdi.specs.Values.{with_sign}
use Rattle.cdi.specs.Access.{child_of}
use Rattle.scan.proofs.Tests.{lt_or_le}
use Rattle.numbers.specs.Held.{held, signed_of, number_of, size_of, nearest, high_of as range_high}
use Rattle.numbers.specs.declared.Signed.{Signed}
use Rattle.std.specs.Prelude as std
use Rattle.std.specs.Option.{unwrap_or}
use Rattle.numbers.specs.declared.Range.{Range}
use Rattle.children.specs.Siblings.{nodes_in}
use Rattle.children.specs.declared.Part.{Part}
use Rattle.children.specs.declared.Part.TheVariants.{Missing, Empty, From}
use Rattle.settings.specs.Contents.{content_in}
use Rattle.settings.specs.Limits.{own_in, child_number, below_zero, number_or, low_of, high_of}
use Rattle.settings.proofs.Limiting.{bound_value, bound_sign}

-- ── a bound's nearest number serves for the bound ──

module _ (f : ℤ → Bool) (above : (n : ℕ) → 2 ^ 64 ≤ n → f (pos (2 ^ 64)) ≡ f (pos n)) (below : (n : ℕ) → 2 ^ 64 ≤ suc n → f (negsuc (2 ^ 64 - 1)) ≡ f (negsuc n)) where
  -- a test that tells no two large numbers of one sign apart
  near : (y : ℤ) → f (nearest (signed_of y)) ≡ f y
  unfolding nearest signed_of held size_of with_sign
  near (pos n) = ⊎_elim (λ k. rw (lt-ltb n (2 ^ 64) k)) (λ k. rw (le-ltb n (2 ^ 64) k) (above n k)) (lt_or_le n (2 ^ 64))
  near (negsuc n) = ⊎_elim (λ k. rw (lt-ltb (suc n) (2 ^ 64) k)) (λ k. rw (le-ltb (suc n) (2 ^ 64) k) (below n k)) (lt_or_le (suc n) (2 ^ 64))

-- a number of 64 bits
abbrev Small : ℤ → Type 0
Small (pos m) = m < 2 ^ 64
Small (negsuc m) = suc m < 2 ^ 64

small : (b : Bool) (m : ℕ) → m < 2 ^ 64 → Small (with_sign b m)
unfolding with_sign
small false m h = h
small true zero h = h
small true (suc m) h = h

module _ (n : ℕ) where
  not_above : (z : ℤ) → Small z → 2 ^ 64 ≤ n → le_z (pos n) z ≡ false
  not_above (pos m) h k = lt-leb n m (omega arith)
  not_above (negsuc m) h k = refl

  below_it : (z : ℤ) → Small z → 2 ^ 64 ≤ suc n → le_z (negsuc n) z ≡ true
  below_it (pos m) h k = refl
  below_it (negsuc m) h k = le-leb m n (omega arith)

  above_it : (z : ℤ) → Small z → 2 ^ 64 ≤ n → le_z z (pos n) ≡ true
  above_it (pos m) h k = le-leb m n (omega arith)
  above_it (negsuc m) h k = refl

  not_below : (z : ℤ) → Small z → 2 ^ 64 ≤ suc n → le_z z (negsuc n) ≡ false
  not_below (pos m) h k = refl
  not_below (negsuc m) h k = lt-leb n m (omega arith)

module _ (z : ℤ) (h : Small z) (y : ℤ) where
  near_low : le_z (nearest (signed_of y)) z ≡ le_z y z
  near_low = near (λ x. le_z x z) (λ n k. not_above (2 ^ 64) z h (omega arith) ∙ sym (not_above n z h k)) (λ n k. below_it (2 ^ 64 - 1) z h (omega arith) ∙ sym (below_it n z h k)) y

  near_high : le_z z (nearest (signed_of y)) ≡ le_z z y
  near_high = near (le_z z) (λ n k. above_it (2 ^ 64) z h (omega arith) ∙ sym (above_it n z h k)) (λ n k. not_below (2 ^ 64 - 1) z h (omega arith) ∙ sym (not_below n z h k)) y

-- ── what the code holds of min and max ──

-- a content that isn't there has no bounds
same_child : (s : List ℕ) (n : List ℕ) (p : Part) → child_number n (nodes_in s p) ≡ child_number n (some (content_in s p))
unfolding child_number own_in nodes_in content_in child_of
same_child s n Missing = refl
same_child s n Empty = refl
same_child s n (From q) = refl

held_sign : (b : Bool) (n : ℕ) → (held b n).negative ≡ b
unfolding held
held_sign b n = ⊎_elim (λ k. rw (lt-ltb n (2 ^ 64) k)) (λ k. rw (le-ltb n (2 ^ 64) k)) (lt_or_le n (2 ^ 64))

below_is : (o : Option ℤ) → below_zero (number_of o) ≡ given o false (λ y. lt_z y (pos 0))
unfolding below_zero number_of signed_of
below_is none = refl
below_is (some (pos n)) = held_sign false n ∙ sym (le-ltb n 0 (omega arith))
below_is (some (negsuc n)) = held_sign true (suc n)

or_is : (o : Option ℤ) (z : ℤ) → number_or (number_of o) (signed_of z) ≡ signed_of (given o z (λ y. y))
unfolding number_or number_of
or_is none z = refl
or_is (some y) z = refl

module _ (s : List ℕ) (p : Part) {min : std.Option Signed} (e : min ≡ number_of (child_number (ascii "min") (nodes_in s p))) where
  pub sign_is : {r : Bool} → r ≡ below_zero min → r ≡ is_signed (bound_of (ascii "min") (content_in s p))
  sign_is z =
      z ∙ ap below_zero e ∙ below_is (child_number (ascii "min") (nodes_in s p)) ∙ ap (λ o. given o false (λ y. lt_z y (pos 0))) (same_child s (ascii "min") p)
      ∙ sym (bound_sign (ascii "min") (content_in s p))

  low_is : (n : ℕ) → low_of min ≡ signed_of (bounds_of n (content_in s p)).min
  unfolding low_of bounds_of
  low_is n =
      ap (λ k. number_or k (signed_of (pos 0))) (e ∙ ap number_of (same_child s (ascii "min") p)) ∙ or_is (child_number (ascii "min") (some (content_in s p))) (pos 0)
      ∙ ap signed_of (sym (bound_value (ascii "min") (content_in s p) (pos 0)))

  high_is : (n : ℕ) {max : std.Option Signed} → max ≡ number_of (child_number (ascii "max") (nodes_in s p)) → high_of n min max ≡ signed_of (bounds_of n (content_in s p)).max
  unfolding high_of bounds_of
  high_is n {max} f =
      ap (λ b. number_or max (signed_of (largest b n))) (sign_is refl)
      ∙ (ap (λ k. number_or k (signed_of most)) (f ∙ ap number_of (same_child s (ascii "max") p)) ∙ or_is (child_number (ascii "max") (some (content_in s p))) most
      ∙ ap signed_of (sym (bound_value (ascii "max") (content_in s p) most)))
    where
      most : ℤ
      most = largest (is_signed (bound_of (ascii "min") (content_in s p))) n

pub ruleset signing = (sign_is, rules)

-- ── the code's ways ──

pub below_by : (o : std.Option Signed) {r : Bool} {Q : Signed → Type 0} → std.MatchOption o (r ≡ false) Q → ((n : Signed) → Q n → r ≡ n.negative) → r ≡ below_zero o
unfolding below_zero
below_by (std.Some n) h f = f n h
below_by std.None h f = h

pub low_by : (o : std.Option Signed) {r d : Signed} → r ≡ unwrap_or o d → d ≡ held false 0 → r ≡ low_of o
unfolding low_of number_or signed_of
low_by (std.Some n) h e = h
low_by std.None h e = h ∙ e

pub high_by : (size : ℕ) (min o : std.Option Signed) {r : Signed} {Q : Type 0} → std.MatchOption o Q (λ x. r ≡ x) → (Q → r ≡ signed_of (largest (below_zero min) size)) → r ≡ high_of size min o
unfolding high_of number_or
high_by size min (std.Some n) h f = h
high_by size min std.None h f = f h

pub largest_held : (range : Range) (b : Bool) (size : ℕ) {r : Signed} → range_high range ≡ largest b size → r ≡ held false range.high → r ≡ signed_of (largest b size)
unfolding range_high signed_of
largest_held range b size e z = z ∙ ap signed_of e

pub ruleset bounding = (largest_held, rules)

-- ── between them ──

module _ (s : List ℕ) (p : Part) (n : ℕ) (b : Bool) (m : ℕ) {min : std.Option Signed} {low : Signed} (value : Signed) {t : Bool} (h : Fits w64 m) (e : min ≡ number_of (child_number (ascii "min") (nodes_in s p)))
    (l : low ≡ low_of min) (v : nearest value ≡ with_sign b m) (k : t ≡ le_z (nearest low) (nearest value)) where
  low_test : t ≡ le_z (bounds_of n (content_in s p)).min (with_sign b m)
  low_test =
      k ∙ ap (λ x. le_z (nearest x) (nearest value)) (l ∙ low_is s p e n) ∙ ap (le_z (nearest (signed_of (bounds_of n (content_in s p)).min))) v
      ∙ near_low (with_sign b m) (small b m h.fits) (bounds_of n (content_in s p)).min

  pub below_min : t ≡ false → false ≡ within (bounds_of n (content_in s p)).min (bounds_of n (content_in s p)).max (with_sign b m)
  unfolding within
  below_min f = sym (rw (sym low_test ∙ f))

  module _ {max : std.Option Signed} {high : Signed} {u : Bool} (f : max ≡ number_of (child_number (ascii "max") (nodes_in s p))) (g : high ≡ high_of n min max) (q : u ≡ le_z (nearest value) (nearest high)) where
    high_test : u ≡ le_z (with_sign b m) (bounds_of n (content_in s p)).max
    high_test =
        q ∙ ap (λ x. le_z (nearest value) (nearest x)) (g ∙ high_is s p e n f) ∙ ap (λ x. le_z x (nearest (signed_of (bounds_of n (content_in s p)).max))) v
        ∙ near_high (with_sign b m) (small b m h.fits) (bounds_of n (content_in s p)).max

    pub from_min : t ≡ true → u ≡ within (bounds_of n (content_in s p)).min (bounds_of n (content_in s p)).max (with_sign b m)
    unfolding within
    from_min x = high_test ∙ sym (rw (sym low_test ∙ x))

pub ruleset between = (below_min, from_min, rules)
