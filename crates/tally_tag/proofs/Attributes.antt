-- The numbers of a tag: a sign and a magnitude as one number, the size, and that each lies in its range.
use mathlib.Core.Path.{◌≡◌, refl, sym, ap, ◌∙◌}
use mathlib.Core.List.{List, []}
use mathlib.Core.Bool.{Bool, true, false, cond}
use mathlib.Core.Option.{Option, none, some}
use Prim.Native.Nat.{ℕ, zero, suc, ◌-◌, ◌^◌, ◌≤◌}
use native.Mathlib.Omega.{arith}
use borrow.Author.Tests.{leb-true, eq-eqb, ne_eqb}
use lib.Dec.{leb}
use lib.IntN.{ℤ, pos, negsuc, neg_ℤ, ◌-ℤ◌, +ℤ_idl}
use mir.Syntax.{w64}
use mir.Val.{SFits, to_z}
use mir.ValLaws.{to_z_pos}
use Rattle.cdi.specs.Lists.{ascii, ◌>>=◌, given, between, lists_page}
use Rattle.cdi.specs.Pieces.{Attribute, pieces_page}
use Rattle.cdi.specs.Numbers.{number, within, numbers_page}
use Rattle.cdi.specs.Rules.{attribute_value, natural, size_text, size_of}
use Rattle.cdi.specs.Plans.{offset_fits}
use Rattle.cdi.specs.Planning.{number_or, offset_of}
use Rattle.cdi.specs.Values.{with_sign}
use Rattle.cdi.proofs.Tests.{ends, both_left, both_right}
use Rattle.cdi.proofs.Signs.{up, down, le_up}
use Rattle.extent.proofs.Signed.{read, read_is}
use Rattle.tally_tag.specs.Tallying.{from_to}
use Rattle.tally_tag.specs.Numbered.{Ranged, natural_in, offset_in, size_by, numbers_by}

-- ── a number in its range ──

abbrev clipped : ℕ → ℕ → Option ℤ → ℕ
clipped lo hi o = from_to lo hi lo (natural (given o (pos lo) (λ y. y)))

-- ── a sign and a magnitude ──

minus : (n : ℕ) → pos 0 -ℤ pos n ≡ neg_ℤ (pos n)
minus n = +ℤ_idl (neg_ℤ (pos n))

minus_small : (n : ℕ) → n ≤ 2147483648 → SFits w64 (neg_ℤ (pos n))
minus_small zero h = record { sfits = omega arith }
minus_small (suc n) h = record { sfits = omega arith }

module _ (n : ℕ) (h : n ≤ 2147483648) where
  cast : to_z w64 n ≡ pos n
  cast = to_z_pos w64 n (omega arith)

  turned : pos 0 -ℤ to_z w64 n ≡ neg_ℤ (pos n)
  turned = ap (λ (z : ℤ). pos 0 -ℤ z) cast ∙ minus n

  pub minus_fits : SFits w64 (pos 0 -ℤ to_z w64 n)
  minus_fits = rw turned (minus_small n h)

  pub minus_is : {b : Bool} → b ≡ true → read (pos 0 -ℤ to_z w64 n) ≡ with_sign b n
  unfolding with_sign
  minus_is e = read_is _ minus_fits ∙ turned ∙ sym (rw e)

  pub plain_is : {b : Bool} → b ≡ false → to_z w64 n ≡ with_sign b n
  unfolding with_sign
  plain_is e = cast ∙ sym (rw e)

-- ── the size ──

one : number (ascii "1") ≡ some (pos 1)
unfolding numbers_page lists_page pieces_page
one = refl

sized : (o : Option (List ℕ)) → clipped 1 65535 (o >>= number) ≡ from_to 1 65535 1 (given (number (given o (ascii "1") (λ v. v))) 0 natural)
unfolding from_to between natural
sized none = rw one
sized (some v) = by (number v)
  where
    by : (z : Option ℤ) → clipped 1 65535 z ≡ from_to 1 65535 1 (given z 0 natural)
    by none = refl
    by (some z) = refl

module _ (k : ℕ) (s : List Attribute) where
  pub size_eventid : k ≡ 8 → 8 ≡ size_by k s
  unfolding size_by from_to between
  size_eventid e = rw (eq-eqb k 8 e)

  pub size_other : {r : ℕ} → (k ≡ 8 → ⊥) → r ≡ natural_in 1 65535 (ascii "size") s → r ≡ size_by k s
  unfolding size_by natural_in number_or size_of size_text
  size_other e h = h ∙ sized (attribute_value (ascii "size") s) ∙ sym (rw (ne_eqb k 8 e))

-- ── the numbers of a tag ──

in_its_range : (lo hi d n : ℕ) → lo ≤ d → d ≤ hi → (lo ≤ from_to lo hi d n) × (from_to lo hi d n ≤ hi)
unfolding from_to between
in_its_range lo hi d n l h = by (between lo hi n) refl
  where
    by : (t : Bool) → between lo hi n ≡ t → (lo ≤ cond t n d) × (cond t n d ≤ hi)
    by true e = (leb-true lo n (both_left _ (leb n hi) e), leb-true n hi (both_right (leb lo n) _ e))
    by false e = (l, h)

small : (z : ℤ) → offset_fits z ≡ true → (natural z ≤ 2 ^ 31 - 1) × (natural (neg_ℤ z) ≤ 2 ^ 31)
unfolding natural offset_fits up down
small (pos zero) e = (omega arith, omega arith)
small (pos (suc n)) e = (omega (arith, le_up (pos (suc n)) (pos 2147483647) (ends (negsuc 2147483647) _ (pos (suc n)) e).1), omega arith)
small (negsuc n) e = (omega arith, omega (arith, le_up (negsuc 2147483647) (negsuc n) (ends _ (pos 2147483647) (negsuc n) e).0))

small_whole : (z : ℤ) → (natural (cond (offset_fits z) z (pos 0)) ≤ 2 ^ 31 - 1) × (natural (neg_ℤ (cond (offset_fits z) z (pos 0))) ≤ 2 ^ 31)
unfolding natural
small_whole z = by (offset_fits z) refl
  where
    by : (t : Bool) → offset_fits z ≡ t → (natural (cond t z (pos 0)) ≤ 2 ^ 31 - 1) × (natural (neg_ℤ (cond t z (pos 0))) ≤ 2 ^ 31)
    by true e = small z e
    by false e = (omega arith, omega arith)

-- The numbers of any tag lie in their ranges.
pub numbers_ranged : (k : ℕ) (s : List Attribute) → Ranged (numbers_by k s)
unfolding numbers_by offset_in size_by natural_in
numbers_ranged k s =
    record {
      rises = (small_whole (offset_of s)).0;
      falls = (small_whole (offset_of s)).1;
      least_size = (in_its_range 1 65535 1 _ (omega arith) (omega arith)).0;
      most_size = (in_its_range 1 65535 1 _ (omega arith) (omega arith)).1;
      least_copies = (in_its_range 1 2147483647 1 _ (omega arith) (omega arith)).0;
      most_copies = (in_its_range 1 2147483647 1 _ (omega arith) (omega arith)).1;
      origin = (in_its_range 0 2147483647 0 _ (omega arith) (omega arith)).1;
      space = (in_its_range 0 255 0 _ (omega arith) (omega arith)).1;
    }

-- the numbers of a tag that has no attributes
module _ (k : ℕ) where
  pub bare_eventid : k ≡ 8 → 8 ≡ size_by k []
  bare_eventid e = size_eventid k [] e

  pub bare_other : (k ≡ 8 → ⊥) → 1 ≡ size_by k []
  bare_other e = size_other k [] e none_there
    where
      none_there : 1 ≡ natural_in 1 65535 (ascii "size") []
      none_there = unfold natural_in number_or attribute_value from_to between natural in refl

module _ (k : ℕ) {a : ℕ} (p : a ≡ size_by k []) where
  pub bare_are : record { offset = pos 0; size = a; replication = 1; origin = 0; space = 0 } ≡ numbers_by k []
  unfolding numbers_by natural_in offset_in offset_of offset_fits number_or attribute_value from_to between natural within
  bare_are = rw p
